use Rattle.std.proofs.Common.{◌≡◌, ◌++◌, map}
use Rattle.dbg_shell.proofs.orders.seats_of.Given as goal

abbrev pub invariant-loop-worker : goal.invariant-loop-worker
invariant-loop-worker g l = record {
  next : (goal.iterator-loop-worker g).can_next l.worker-iterator;
  finite : (goal.iterator-loop-worker g).is_finite l.worker-iterator;
  seats : l.seats.items ++ map (λ worker. worker.seat) l.worker-iterator.rest.items ≡ map (λ worker. worker.seat) l.fn.workers.items;
}
