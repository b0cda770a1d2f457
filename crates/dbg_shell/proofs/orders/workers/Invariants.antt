use Rattle.std.proofs.Common.{◌≡◌, ◌++◌}
use Rattle.dbg_desk.specs.Desks.{new_seats}
use Rattle.dbg_shell.specs.Crewing.{new_workers}
use Rattle.dbg_shell.proofs.orders.workers.Given as goal

abbrev pub invariant-loop-seat : goal.invariant-loop-seat
invariant-loop-seat g l = record {
  next : (goal.iterator-loop-seat g).can_next l.seat-iterator;
  finite : (goal.iterator-loop-seat g).is_finite l.seat-iterator;
  left : new_seats l.number ++ l.seat-iterator.rest.items ≡ new_seats g.L.Run.seats;
  workers : l.workers.items ≡ new_workers l.processes l.turns l.number;
}
