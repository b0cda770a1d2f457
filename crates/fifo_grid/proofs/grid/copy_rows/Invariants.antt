use Rattle.std.proofs.Common.{◌≡◌, map, take}
use Rattle.fifo_grid.proofs.grid.copy_rows.Given as goal

abbrev pub invariant-loop-row : goal.invariant-loop-row
invariant-loop-row l =
    map (λ row. map (λ queue. queue.messages) row.items) l.made.items
    ≡ map (λ row. map (λ queue. queue.messages) row.items) (take l.row-index l.rows.items)
