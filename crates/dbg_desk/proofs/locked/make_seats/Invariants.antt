use Rattle.std.proofs.Common.{◌≡◌, ◌+◌, replicate, []}
use Rattle.dbg_board.specs.Boards.{listing}
use Rattle.dbg_desk.specs.Desks.{new_seats}
use Rattle.dbg_desk.proofs.locked.make_seats.Given as goal

abbrev pub invariant-loop-view : goal.invariant-loop-view
invariant-loop-view g l = record {
  next : (goal.iterator-loop-view g).can_next l.view-iterator;
  finite : (goal.iterator-loop-view g).is_finite l.view-iterator;
  left : l.view-iterator.rest.items ≡ replicate l.share.parts (listing g.L.Run.board []);
  parts : l.share.parts + l.number ≡ g.L.Run.seats;
  amount : l.share.amount ≡ 0;
  seats : l.seats.items ≡ new_seats l.number;
}
