use Rattle.break_book.proofs.HaltLemmas.{NoneBefore}
use Rattle.break_book.proofs.book.first_halting.Given as goal

abbrev pub invariant-loop-i : goal.invariant-loop-i
invariant-loop-i l = NoneBefore l.breaks.entries l.i
