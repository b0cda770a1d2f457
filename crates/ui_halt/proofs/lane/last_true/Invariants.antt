use Rattle.std.proofs.Common.{◌≡◌, ℕ, ◌<◌, ◌≤◌, false}
use Rattle.ui_halt.specs.Lanes.{true_at}
use Rattle.ui_halt.proofs.lane.last_true.Given as goal

abbrev pub invariant-loop-left : goal.invariant-loop-left
invariant-loop-left l = (l.left ≤ l.below) × ((k : ℕ) → l.left ≤ k → k < l.below → true_at l.truths k ≡ false)

abbrev pub decreases-loop-left : goal.decreases-loop-left
decreases-loop-left l = l.left
