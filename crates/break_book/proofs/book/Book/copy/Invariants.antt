use Rattle.std.proofs.Common.{◌≡◌, ◌++◌}
use Rattle.break_book.proofs.book.Book.copy.Given as goal

-- what is copied, and what is still to be copied
abbrev pub invariant-loop-name : goal.invariant-loop-name
invariant-loop-name l = l.breaks.entries ++ l.name-iterator ≡ l.self
