use Rattle.std.proofs.Common.{◌≡◌, [], map, replicate, length}
use Rattle.cut_core.proofs.history.empty_lists.Given as goal

abbrev pub invariant-loop : goal.invariant-loop
invariant-loop l = (map (λ list. list.places) l.made.items ≡ replicate l.counter []) × (length l.made.items ≡ l.counter)
