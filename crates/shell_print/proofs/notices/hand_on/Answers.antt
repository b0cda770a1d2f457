use Rattle.shell_print.proofs.WriteLemmas.{handed_on}
use Rattle.shell_print.proofs.notices.hand_on.Goals as goal

pub returns : goal.returns
returns g c = λ old text wrote. handed_on wrote c.in_ok-written.was c.flush.ensures
