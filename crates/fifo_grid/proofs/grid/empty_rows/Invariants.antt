use Rattle.std.proofs.Common.{◌≡◌, [], map, replicate}
use Rattle.fifo_grid.proofs.grid.empty_rows.Given as goal

abbrev pub invariant-loop : goal.invariant-loop
invariant-loop l = map (λ row. map (λ queue. queue.messages) row.items) l.rows.items ≡ replicate l.counter (replicate l.processes [])
