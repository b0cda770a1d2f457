use Rattle.ui_halt.proofs.LaneLemmas.{IsTrueFrom}
use Rattle.ui_halt.proofs.lane.true_since.Given as goal

abbrev pub invariant-loop-since : goal.invariant-loop-since
invariant-loop-since l = IsTrueFrom l.truths l.count l.since

abbrev pub decreases-loop-since : goal.decreases-loop-since
decreases-loop-since l = l.since
