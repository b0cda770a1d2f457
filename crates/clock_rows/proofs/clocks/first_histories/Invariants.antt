use Rattle.std.proofs.Common.{◌≡◌, [], ◌∷◌, map, replicate}
use Rattle.clock_rows.proofs.clocks.first_histories.Given as goal

abbrev pub invariant-loop : goal.invariant-loop
invariant-loop l =
    (map (λ history. history.width) l.histories.items ≡ replicate l.counter l.processes)
    × (map (λ history. history.rows) l.histories.items ≡ replicate l.counter (replicate l.processes 0 ∷ []))
