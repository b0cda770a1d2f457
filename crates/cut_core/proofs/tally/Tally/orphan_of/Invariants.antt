use Rattle.std.proofs.Common.{ℕ, ◌<◌}
use Rattle.cut_core.specs.ConsistentCuts.{HasOrphan}
use Rattle.cut_core.proofs.tally.Tally.orphan_of.Given as goal

abbrev pub invariant-loop-i : goal.invariant-loop-i
invariant-loop-i l = (i : ℕ) → i < l.i → ¬ HasOrphan l.self.kinds l.counts i l.to.0
