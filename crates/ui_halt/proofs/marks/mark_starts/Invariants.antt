use Rattle.std.proofs.Common.{[], get_or}
use Rattle.ui_halt.specs.Marks.{AreStarts}
use Rattle.ui_halt.proofs.marks.mark_starts.Given as goal

abbrev pub invariant-loop-before : goal.invariant-loop-before
invariant-loop-before l = AreStarts (get_or l.rows.events l.pid.0 []) l.truths l.before l.starts.items
