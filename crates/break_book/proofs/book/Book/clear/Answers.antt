use Rattle.std.proofs.Common.{refl, sym, ap, ◌∙◌, subst}
use Rattle.std.specs.Map.{lookup}
use Rattle.std.specs.Str.{bytes_eq}
use Rattle.indexmap.specs.IndexMap.{shift_remove_entry}
use Rattle.least_cut.specs.Detectors.{IsDetectorOf}
use Rattle.break_book.specs.Books.{Entry, AreDetectorsOf}
use Rattle.break_book.proofs.Entries.{IsCleared, position_of, not_named, all_left, cleared}
use Rattle.break_book.proofs.book.Book.clear.Goals as goal

-- the book after the removal
taken : (c : goal.After-self-1)
    → IsCleared c.args.name c.args.self.now c.shift_remove_full.new.self.entries c.in-Some.position c.in-Some.breakpoint
taken c =
    cleared c.args.name c.args.self.now c.shift_remove_full.new.self.entries c.in-Some.position c.in-Some.breakpoint
    (ap (position_of c.args.name) (sym c.self.view_is) ∙ sym c.in-Some.ensures.index)
    (ap (lookup (bytes_eq c.args.name)) (sym c.self.view_is) ∙ sym c.in-Some.ensures.value)
    (c.shift_remove_full.ensures.entries ∙ ap (shift_remove_entry (bytes_eq c.args.name)) c.self.view_is)

pub returns-clause-clears : goal.returns-clause-clears
returns-clause-clears c = let r = taken c in (r.is, r.left)

pub returns-clause-position : goal.returns-clause-position
returns-clause-position c = let r = taken c in (r.place, r.whole)

pub returns-clause-free : goal.returns-clause-free
returns-clause-free c = not_named c.args.name c.shift_remove_full.new.self.entries c.shift_remove_full.ensures.updates.1

pub returns-clause-of : goal.returns-clause-of
returns-clause-of c = λ w are.
    subst (AreDetectorsOf w)
    (sym (c.shift_remove_full.ensures.entries ∙ ap (shift_remove_entry (bytes_eq c.args.name)) c.self.view_is))
    (all_left c.args.name (λ (entry : Entry). IsDetectorOf w entry.1.detector) c.args.self.now are)

pub returns-in_default-clause-refuses : goal.returns-in_default-clause-refuses
returns-in_default-clause-refuses c =
    (not_named c.args.name c.args.self.now (ap (lookup (bytes_eq c.args.name)) (sym c.self.view_is) ∙ sym c.in_default.ensures.value), refl)
