use Rattle.std.proofs.Common.{◌≡◌, ℕ, ◌<◌, ◌≤◌, true, false, sum}
use Rattle.cut_core.specs.ConsistentCuts.{IsLowered, HasOrphan}
use Rattle.cut_core.proofs.tally.Tally.lower_each.Given as goal

abbrev pub invariant-loop-j : goal.invariant-loop-j
invariant-loop-j l = record {
  kept : IsLowered l.self.kinds l.fn.counts l.counts;
  most : sum l.counts ≤ sum l.fn.counts;
  less : l.lowered ≡ true → sum l.counts < sum l.fn.counts;
  none : l.lowered ≡ false → (i j : ℕ) → j < l.j → ¬ HasOrphan l.self.kinds l.counts i j;
}
