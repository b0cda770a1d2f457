use Rattle.std.proofs.Common.{◌≡◌, [], map, replicate}
use Rattle.event_rows.proofs.rows.empty_histories.Given as goal

abbrev pub invariant-loop : goal.invariant-loop
invariant-loop l = map (λ history. history.events) l.histories.items ≡ replicate l.counter []
