use Rattle.shell_print.proofs.WriteLemmas.{puts_written, puts_unwritten}
use Rattle.shell_print.proofs.parts.write_composed.Goals as goal

pub returns-in_err-write_whole-clause-puts : goal.returns-in_err-write_whole-clause-puts
returns-in_err-write_whole-clause-puts g c = puts_unwritten c.in_err-write_whole.ensures c.bytes.ensures c.from_residual.ensures.1

pub returns-clause-puts : goal.returns-clause-puts
returns-clause-puts g c = puts_written c.in_ok-write_whole.ensures c.bytes.ensures c.clear.ensures
