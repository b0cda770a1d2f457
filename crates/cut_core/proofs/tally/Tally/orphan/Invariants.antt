use Rattle.std.proofs.Common.{ℕ, ◌<◌}
use Rattle.cut_core.specs.ConsistentCuts.{HasOrphan}
use Rattle.cut_core.proofs.tally.Tally.orphan.Given as goal

abbrev pub invariant-loop-j : goal.invariant-loop-j
invariant-loop-j l = (i j : ℕ) → j < l.j → ¬ HasOrphan l.self.kinds l.counts i j
