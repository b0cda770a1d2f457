use Rattle.std.proofs.Common.{sym, ap, ◌∙◌, subst, arith, length}
use Rattle.least_cut.specs.Detectors.{IsDetectorOf}
use Rattle.break_book.specs.Books.{Kept, AreDetectorsOf, marked_at}
use Rattle.break_book.proofs.Entries.{written, length_marked, all_marked}
use Rattle.break_book.proofs.book.Book.mark.Goals as goal

pub returns-clause-marks : goal.returns-clause-marks
returns-clause-marks c =
    written c.self.inside.breaks.entries c.args.position c.index_mut.result.now c.mark.new.self c.args.armed c.index_mut.ensures.value
    c.mark.ensures ∙ ap (marked_at c.args.position c.args.armed) c.self.view_is

pub returns-clause-of : goal.returns-clause-of
returns-clause-of c = λ w are.
    subst (AreDetectorsOf w) (sym (returns-clause-marks c))
    (all_marked (λ (k : Kept). IsDetectorOf w k.detector) (λ k armed is. is) c.args.self.now c.args.position c.args.armed are)

pub invariant_of-self : goal.invariant_of-self
invariant_of-self c =
    omega (
      arith,
      c.self.invariant,
      ap length c.self.view_is,
      ap length (returns-clause-marks c),
      length_marked c.args.self.now c.args.position c.args.armed,
    )
