use Rattle.least_cut.proofs.ListLoopLemmas.{Became}
use Rattle.break_book.proofs.BookLoopLemmas.{Stays, HasRoom}
use Rattle.break_book.proofs.book.following.reserve_each_to.Given as goal

abbrev pub invariant-loop-i : goal.invariant-loop-i
invariant-loop-i l = Became (Stays (HasRoom l.cut)) l.fn.breaks.entries l.breaks.entries l.i
