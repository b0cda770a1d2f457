use Rattle.least_cut.proofs.ListLoopLemmas.{Became}
use Rattle.break_book.specs.Books.{IsFollowed}
use Rattle.break_book.proofs.BookLoopLemmas.{Stays}
use Rattle.break_book.proofs.book.following.shrink_each.Given as goal

abbrev pub invariant-loop-i : goal.invariant-loop-i
invariant-loop-i l = Became (Stays (IsFollowed l.world)) l.fn.breaks.entries l.breaks.entries l.i
