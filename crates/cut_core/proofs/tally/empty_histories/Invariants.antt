use Rattle.std.proofs.Common.{◌≡◌, [], map, replicate, length}
use Rattle.cut_core.proofs.tally.empty_histories.Given as goal

abbrev pub invariant-loop : goal.invariant-loop
invariant-loop l = (map (λ history. history.kinds) l.histories.items ≡ replicate l.counter []) × (length l.histories.items ≡ l.counter)
