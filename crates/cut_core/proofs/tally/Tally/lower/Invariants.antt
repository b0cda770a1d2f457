use Rattle.std.proofs.Common.{sum}
use Rattle.cut_core.specs.ConsistentCuts.{IsLowered}
use Rattle.cut_core.proofs.tally.Tally.lower.Given as goal

abbrev pub invariant-loop : goal.invariant-loop
invariant-loop l = IsLowered l.self.kinds l.fn.counts l.counts

abbrev pub decreases-loop : goal.decreases-loop
decreases-loop l = sum l.counts
