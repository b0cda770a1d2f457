use Rattle.std.proofs.Common.{◌≡◌, [], get_or}
use Rattle.dbg_base.specs.LocalStates.{no_state}
use Rattle.ui_causes.proofs.WriteLemmas.{IsUnwritten}
use Rattle.ui_causes.proofs.origin.last_write.Given as goal

abbrev pub invariant-loop-left : goal.invariant-loop-left
invariant-loop-left l = IsUnwritten l.named (get_or l.rows.starts l.pid.0 no_state) (get_or l.rows.events l.pid.0 []) l.left l.n

abbrev pub decreases-loop-left : goal.decreases-loop-left
decreases-loop-left l = l.left
