use Rattle.std.proofs.Common.{◌≡◌, ℕ, ◌<◌, [], length, get_or, min}
use Rattle.cut_core.proofs.tally.Tally.clipped.Given as goal

abbrev pub invariant-loop-p : goal.invariant-loop-p
invariant-loop-p l = record {
  len : length l.made.items ≡ l.p;
  counts : (p : ℕ) → p < l.p → get_or l.made.items p 0 ≡ min (get_or l.counts p 0) (length (get_or l.self.kinds p []));
}
