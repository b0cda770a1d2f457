use Rattle.std.proofs.Common.{◌≡◌, ℕ, ◌<◌, [], length, get_or}
use Rattle.cut_core.proofs.tally.Tally.all_events.Given as goal

abbrev pub invariant-loop-p : goal.invariant-loop-p
invariant-loop-p l = record {
  len : length l.counts.items ≡ l.p;
  counts : (p : ℕ) → p < l.p → get_or l.counts.items p 0 ≡ length (get_or l.self.kinds p []);
}
