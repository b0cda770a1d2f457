use Rattle.shell_print.proofs.WriteLemmas.{stopped, writes_then}
use Rattle.shell_print.proofs.notices.print_settled.Goals as goal

pub returns-in_err-write_line : goal.returns-in_err-write_line
returns-in_err-write_line g c = stopped _ c.in_err-write_line.ensures c.from_residual.ensures.1

pub returns : goal.returns
returns g c = writes_then c.in_ok-write_line.ensures c.write_line-2.ensures
