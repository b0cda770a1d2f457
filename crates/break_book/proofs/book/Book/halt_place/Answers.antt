use Rattle.std.proofs.Common.{◌+◌, List, length, refl, ap, ◌∙◌, arith}
use Rattle.break_book.specs.Books.{Entry, first_halt}
use Rattle.break_book.proofs.HaltLemmas.{halt_placed}
use Rattle.break_book.proofs.book.Book.halt_place.Goals as goal

pub returns-then-self-len-clause-place : goal.returns-then-self-len-clause-place
returns-then-self-len-clause-place c = λ w P are of.
    halt_placed P w of c.args.self.now c.self.inside.halting (c.self.inside.halting + 1) are
    (c.self.invariant.1 ∙ ap first_halt c.self.view_is) (λ here. refl)
    (λ past. absurd (omega (arith, past, c.if-self-len.true, c.len.ensures.len, ap (λ (l : List Entry). length l) c.self.view_is)))

pub returns-else-self-len-clause-place : goal.returns-else-self-len-clause-place
returns-else-self-len-clause-place c = λ w P are of.
    halt_placed P w of c.args.self.now c.self.inside.halting 0 are (c.self.invariant.1 ∙ ap first_halt c.self.view_is)
    (λ here. absurd (omega (arith, here, c.if-self-len.false, c.len.ensures.len, ap (λ (l : List Entry). length l) c.self.view_is)))
    (λ past. refl)
