use Rattle.std.proofs.Common.{◌≡◌, map, take}
use Rattle.fifo_grid.proofs.grid.copy_row.Given as goal

abbrev pub invariant-loop-queue : goal.invariant-loop-queue
invariant-loop-queue l = map (λ queue. queue.messages) l.made.items ≡ map (λ queue. queue.messages) (take l.queue-index l.row.items)
