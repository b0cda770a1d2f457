use Rattle.std.proofs.Common.{◌≡◌, ◌++◌, map}
use Rattle.dbg_base.specs.Views.{mark_of}
use Rattle.break_book.specs.Books.{breakpoints_of}
use Rattle.break_book.proofs.book.Book.list.Given as goal

-- what is noted, and what is still to be noted
abbrev pub invariant-loop-name : goal.invariant-loop-name
invariant-loop-name l = l.marks.items ++ map mark_of (breakpoints_of l.name-iterator) ≡ map mark_of (breakpoints_of l.self)
