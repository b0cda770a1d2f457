use Rattle.std.proofs.Common.{arith}
use Rattle.least_cut.specs.Detectors.{IsGrown, HasRoomUpTo}
use Rattle.break_book.specs.Books.{Kept}
use Rattle.break_book.proofs.BookLoopLemmas.{turn, more, followed}
use Rattle.break_book.proofs.book.following.grow_each.Goals as goal

pub grow-requires-clause-grown : goal.grow-requires-clause-grown
grow-requires-clause-grown c =
    turn c.loop-i.invariant c.index_mut.ensures.value (λ (kept : Kept). IsGrown kept.detector c.args.pid.0 c.args.world.now)
    c.requires.grown

pub grow-requires-clause-room : goal.grow-requires-clause-room
grow-requires-clause-room c =
    turn c.loop-i.invariant c.index_mut.ensures.value (λ (kept : Kept). HasRoomUpTo kept.detector c.args.world.now.state.places)
    c.requires.room

pub loop-i-preserved : goal.loop-i-preserved
loop-i-preserved c = more c.loop-i.invariant c.index_mut.ensures.value c.grow.ensures

pub returns : goal.returns
returns c = followed c.loop-i.invariant (omega (arith, c.loop-i-test.false, c.len-i-end.ensures.len))
