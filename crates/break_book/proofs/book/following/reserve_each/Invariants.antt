use Rattle.least_cut.specs.Detectors.{one_more}
use Rattle.least_cut.proofs.ListLoopLemmas.{Became}
use Rattle.break_book.proofs.BookLoopLemmas.{Stays, HasRoom}
use Rattle.break_book.proofs.book.following.reserve_each.Given as goal

abbrev pub invariant-loop-i : goal.invariant-loop-i
invariant-loop-i l = Became (Stays (HasRoom (one_more l.world l.pid.0))) l.fn.breaks.entries l.breaks.entries l.i
