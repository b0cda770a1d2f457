use Rattle.shell_print.proofs.WriteLemmas.{puts_stopped}
use Rattle.shell_print.proofs.parts.put_mark.Goals as goal

pub returns-in_err-make_room : goal.returns-in_err-make_room
returns-in_err-make_room g c = puts_stopped _ c.in_err-make_room.ensures.puts c.from_residual.ensures.1
