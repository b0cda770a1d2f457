use Rattle.std.proofs.Common.{◌≡◌, ◌≤◌, List, None, length, insert, sym, ap, ◌∙◌, subst}
use Rattle.dbg_base.specs.Breakpoints.{named}
use Rattle.least_cut.specs.Detectors.{IsDetectorOf}
use Rattle.break_book.specs.Books.{Entry, breakpoints_of, AreDetectorsOf}
use Rattle.break_book.proofs.Entries.{restored, all_insert}
use Rattle.break_book.proofs.book.Book.restore_at.Goals as goal

pub returns-in-Ok-clause-restores : goal.returns-in-Ok-clause-restores
returns-in-Ok-clause-restores c =
    c.in-Ok.ensures.entries
    ∙ restored c.self.inside.breaks.entries c.args.name c.args.breakpoint c.args.position c.in-Ok.field-0.0
    (subst (λ (l : List Entry). named c.args.name (breakpoints_of l) ≡ None) (sym c.self.view_is) c.requires.name)
    (subst (λ (l : List Entry). c.args.position ≤ length l) (sym c.self.view_is) c.requires.position)
    c.in-Ok.ensures.index
    ∙ ap (λ (l : List Entry). insert l c.args.position (c.args.name, c.args.breakpoint)) c.self.view_is

pub returns-in-Ok-clause-of : goal.returns-in-Ok-clause-of
returns-in-Ok-clause-of c = λ w are is.
    subst (AreDetectorsOf w) (sym (returns-in-Ok-clause-restores c))
    (all_insert (λ (entry : Entry). IsDetectorOf w entry.1.detector) c.args.self.now c.args.position
    (c.args.name, c.args.breakpoint) are is)
