use Rattle.std.proofs.Common.{◌≡◌, [], map, replicate}
use Rattle.fifo_grid.proofs.grid.empty_row.Given as goal

abbrev pub invariant-loop : goal.invariant-loop
invariant-loop l = map (λ queue. queue.messages) l.row.items ≡ replicate l.counter []
