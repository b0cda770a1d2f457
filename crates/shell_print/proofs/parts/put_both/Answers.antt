use Rattle.std.proofs.Common.{◌++◌, sym}
use Rattle.std.specs.Prelude.{codes}
use Rattle.shell_print.specs.Pieces.{item_text}
use Rattle.shell_print.proofs.WriteLemmas.{puts_then, puts_stopped, puts_same, spaced_two}
use Rattle.shell_print.proofs.parts.put_both.Goals as goal

pub returns-in_err-put_item : goal.returns-in_err-put_item
returns-in_err-put_item g c =
    puts_same (sym (spaced_two (item_text c.args.first.now) (item_text c.args.second.now)))
    (puts_stopped (codes " " ++ item_text c.args.second.now) c.in_err-put_item.ensures c.from_residual.ensures.1)

pub returns : goal.returns
returns g c =
    puts_same (sym (spaced_two (item_text c.args.first.now) (item_text c.args.second.now)))
    (puts_then c.in_ok-put_item.ensures c.put_item-2.ensures)
