use Rattle.std.proofs.Common.{List, Some, None, sym, ap, ◌∙◌, subst}
use Rattle.std.specs.Prelude.{slice_get}
use Rattle.dbg_base.specs.SystemStates.{history_of}
use Rattle.dbg_base.specs.Breakpoints.{IsHaltedBy}
use Rattle.break_book.specs.Books.{Entry, breakpoints_of, first_halt}
use Rattle.break_book.proofs.HaltLemmas.{halted_at}
use Rattle.break_book.proofs.book.Book.halted.Goals as goal

pub returns-in_err-name : goal.returns-in_err-name
returns-in_err-name c = λ w P are of.
    subst (IsHaltedBy P (history_of w.state) (breakpoints_of c.args.self.now)) (sym c.from_residual.ensures)
    (halted_at P w of c.args.self.now None are
    (sym (c.in_err-name.ensures.entry ∙ ap (slice_get c.self.inside.breaks.entries) c.self.invariant.1
    ∙ ap (λ (l : List Entry). slice_get l (first_halt l)) c.self.view_is)))

pub returns : goal.returns
returns c = λ w P are of.
    halted_at P w of c.args.self.now (Some (c.in_ok-name.name.now, c.in_ok-name.field-0-1.now)) are
    (sym (c.in_ok-name.ensures.entry ∙ ap (slice_get c.self.inside.breaks.entries) c.self.invariant.1
    ∙ ap (λ (l : List Entry). slice_get l (first_halt l)) c.self.view_is))
