use Rattle.std.proofs.Common.{arith}
use Rattle.least_cut.specs.Detectors.{IsShrunk}
use Rattle.break_book.specs.Books.{Kept}
use Rattle.break_book.proofs.BookLoopLemmas.{turn, more, followed}
use Rattle.break_book.proofs.book.following.shrink_each.Goals as goal

pub shrink-requires : goal.shrink-requires
shrink-requires c =
    turn c.loop-i.invariant c.index_mut.ensures.value (λ (kept : Kept). IsShrunk kept.detector c.args.pid.0 c.args.world.now) c.requires

pub loop-i-preserved : goal.loop-i-preserved
loop-i-preserved c = more c.loop-i.invariant c.index_mut.ensures.value c.shrink.ensures

pub returns : goal.returns
returns c = followed c.loop-i.invariant (omega (arith, c.loop-i-test.false, c.len-i-end.ensures.len))
