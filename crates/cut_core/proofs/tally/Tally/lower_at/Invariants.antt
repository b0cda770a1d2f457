use Rattle.std.proofs.Common.{◌≡◌, ◌<◌, true, false, sum}
use Rattle.cut_core.specs.ConsistentCuts.{IsLowered}
use Rattle.cut_core.proofs.tally.Tally.lower_at.Given as goal

abbrev pub invariant-loop-from : goal.invariant-loop-from
invariant-loop-from l = record {
  kept : IsLowered l.self.kinds l.fn.counts l.counts;
  less : l.lowered ≡ true → sum l.counts < sum l.fn.counts;
  same : l.lowered ≡ false → l.counts ≡ l.fn.counts;
}

abbrev pub decreases-loop-from : goal.decreases-loop-from
decreases-loop-from l = sum l.counts
