use Rattle.std.proofs.Common.{◌++◌, List, ℕ, ap, ◌∙◌, append_assoc}
use Rattle.std.specs.Prelude.{codes}
use Rattle.shell_print.proofs.WriteLemmas.{puts_kept, puts_then, puts_stopped}
use Rattle.shell_print.proofs.parts.put_pair.Goals as goal

pub returns-in_err-make_room : goal.returns-in_err-make_room
returns-in_err-make_room g c amount at = puts_stopped _ c.in_err-make_room.ensures.puts c.from_residual.ensures.1

pub returns : goal.returns
returns g c amount at = puts_then c.in_ok-make_room.ensures.puts (puts_kept _ _ _ _
    (c.append_at.ensures amount at ∙ ap (λ (t : List ℕ). t ++ amount) c.append_name.ensures.text
    ∙ append_assoc c.make_room.new.text (codes " " ++ c.args.name.now ++ codes "=") amount))
