use Rattle.std.proofs.Common.{◌≡◌, ℕ, ◌<◌, ◌≤◌, length, get_or, map}
use Rattle.cut_core.proofs.history.reserve_each.Given as goal

abbrev pub invariant-loop-s : goal.invariant-loop-s
invariant-loop-s l = record {
  len : length l.lists.items ≡ length l.fn.lists.items;
  places : map (λ list. list.places) l.lists.items ≡ map (λ list. list.places) l.fn.lists.items;
  grows : (s : ℕ) → get_or (map (λ list. list.room) l.fn.lists.items) s 0 ≤ get_or (map (λ list. list.room) l.lists.items) s 0;
  each : (s : ℕ) → s < l.s → l.more ≤ get_or (map (λ list. list.room) l.lists.items) s 0;
}
