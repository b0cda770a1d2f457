use Rattle.std.proofs.Common.{arith}
use Rattle.least_cut.specs.Detectors.{HasRoomUpTo}
use Rattle.break_book.specs.Books.{Kept}
use Rattle.break_book.proofs.BookLoopLemmas.{have_room, turn, more, roomier, roomier_so_far, all_room}
use Rattle.break_book.proofs.book.following.reserve_each.Goals as goal

pub reserve-requires-clause-room : goal.reserve-requires-clause-room
reserve-requires-clause-room c =
    turn c.loop-i.invariant c.index_mut.ensures.value (λ (kept : Kept). HasRoomUpTo kept.detector c.args.world.now.state.places)
    (have_room c.args.world.now c.args.breaks.now.entries c.requires.of)

pub loop-i-preserved : goal.loop-i-preserved
loop-i-preserved c =
    more c.loop-i.invariant c.index_mut.ensures.value (record { same = c.reserve.ensures.same; room = c.in_ok-reserve.ensures.room })

pub returns-in_err-reserve-clause-same : goal.returns-in_err-reserve-clause-same
returns-in_err-reserve-clause-same c =
    roomier (more (roomier_so_far c.loop-i.invariant) c.index_mut.ensures.value c.reserve.ensures.same)

pub returns-clause-same : goal.returns-clause-same
returns-clause-same c = roomier (roomier_so_far c.loop-i.invariant)

pub returns-clause-room : goal.returns-clause-room
returns-clause-room c = all_room c.loop-i.invariant (omega (arith, c.loop-i-test.false, c.len-i-end.ensures.len))
