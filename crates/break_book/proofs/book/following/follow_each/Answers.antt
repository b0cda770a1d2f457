use Rattle.std.proofs.Common.{arith}
use Rattle.least_cut.specs.Detectors.{IsMoved, HasRoomUpTo}
use Rattle.break_book.specs.Books.{Kept}
use Rattle.break_book.proofs.BookLoopLemmas.{turn, more, followed}
use Rattle.break_book.proofs.book.following.follow_each.Goals as goal

pub follow-requires-clause-moved : goal.follow-requires-clause-moved
follow-requires-clause-moved c =
    turn c.loop-i.invariant c.index_mut.ensures.value (λ (kept : Kept). IsMoved kept.detector c.args.world.now) c.requires.moved

pub follow-requires-clause-room : goal.follow-requires-clause-room
follow-requires-clause-room c =
    turn c.loop-i.invariant c.index_mut.ensures.value (λ (kept : Kept). HasRoomUpTo kept.detector c.args.world.now.state.places)
    c.requires.room

pub loop-i-preserved : goal.loop-i-preserved
loop-i-preserved c = more c.loop-i.invariant c.index_mut.ensures.value c.follow.ensures

pub returns : goal.returns
returns c = followed c.loop-i.invariant (omega (arith, c.loop-i-test.false, c.len-i-end.ensures.len))
