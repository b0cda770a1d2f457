use Rattle.std.proofs.Common.{arith}
use Rattle.break_book.proofs.BookLoopLemmas.{more, roomier, roomier_so_far, all_room}
use Rattle.break_book.proofs.book.following.reserve_each_to.Goals as goal

pub loop-i-preserved : goal.loop-i-preserved
loop-i-preserved c =
    more c.loop-i.invariant c.index_mut.ensures.value (record { same = c.reserve_to.ensures.same; room = c.in_ok-reserve_to.ensures.room })

pub returns-in_err-reserve_to-clause-same : goal.returns-in_err-reserve_to-clause-same
returns-in_err-reserve_to-clause-same c =
    roomier (more (roomier_so_far c.loop-i.invariant) c.index_mut.ensures.value c.reserve_to.ensures.same)

pub returns-clause-same : goal.returns-clause-same
returns-clause-same c = roomier (roomier_so_far c.loop-i.invariant)

pub returns-clause-room : goal.returns-clause-room
returns-clause-room c = all_room c.loop-i.invariant (omega (arith, c.loop-i-test.false, c.len-i-end.ensures.len))
