use Rattle.std.proofs.Common.{◌++◌, ◌∷◌, [], List, ℕ, ap, ◌∙◌, append_assoc}
use Rattle.shell_print.specs.Pieces.{item_text}
use Rattle.shell_print.proofs.WriteLemmas.{puts_kept, puts_then, puts_stopped}
use Rattle.shell_print.proofs.parts.put_item.Goals as goal

pub returns-in_err-make_room : goal.returns-in_err-make_room
returns-in_err-make_room g c = puts_stopped _ c.in_err-make_room.ensures.puts c.from_residual.ensures.1

pub returns : goal.returns
returns g c = puts_then c.in_ok-make_room.ensures.puts (puts_kept _ _ _ _
    (c.append_item.ensures ∙ ap (λ (t : List ℕ). t ++ item_text c.args.item.now) c.push.ensures
    ∙ append_assoc c.make_room.new.text (32 ∷ []) (item_text c.args.item.now)))
