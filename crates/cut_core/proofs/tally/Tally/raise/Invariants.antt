use Rattle.std.proofs.Common.{ℕ, ◌-◌, List, sum}
use Rattle.dbg_base.specs.Cuts.{IsAtMost}
use Rattle.cut_core.specs.ConsistentCuts.{IsConsistentCut, IsWithin, places}
use Rattle.cut_core.proofs.tally.Tally.raise.Given as goal

abbrev pub invariant-loop-from : goal.invariant-loop-from
invariant-loop-from l = record {
  within : IsWithin l.self.kinds l.counts;
  above : IsAtMost l.fn.counts l.counts;
  least : (c : List ℕ) → IsConsistentCut l.self.kinds c → IsAtMost l.fn.counts c → IsAtMost l.counts c;
}

abbrev pub decreases-loop-from : goal.decreases-loop-from
decreases-loop-from l = sum (places l.self.kinds) - sum l.counts
