use Rattle.std.proofs.Common.{◌≡◌, ℕ, ◌<◌, ◌≤◌, IsTrue, false, slice_index}
use Rattle.least_cut.proofs.detector.search.exceeds.Given as goal

abbrev pub invariant-loop-i : goal.invariant-loop-i
invariant-loop-i l = record {
  more : IsTrue l.more → (r : ℕ) × (slice_index l.counts r < slice_index l.row r);
  most : l.more ≡ false → (r : ℕ) → r < l.i → slice_index l.row r ≤ slice_index l.counts r;
}
