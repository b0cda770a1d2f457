use Rattle.std.proofs.Common.{◌≡◌, Bool, false, Option, refl, sym, ap, ◌∙◌, subst}
use Rattle.std.specs.Bool.{MatchBool}
use Rattle.dbg_base.specs.declared.refusal.Refusal.TheVariants as refusals
use Rattle.dbg_base.specs.Breakpoints.{Breakpoint}
use Rattle.dbg_base.specs.Predicates.{NoCut}
use Rattle.dbg_base.specs.SystemStates.{history_of}
use Rattle.least_cut.specs.Detectors.{conjuncts_of}
use Rattle.break_book.specs.Books.{breakpoints_of, TellsWhether, MayPass, CannotPass}
use Rattle.break_book.proofs.HaltLemmas.{tells_cut}
use Rattle.break_book.proofs.book.Book.pass.Goals as goal

pub returns-then-not-has_cut-clause-refuses : goal.returns-then-not-has_cut-clause-refuses
returns-then-not-has_cut-clause-refuses c = λ w P are now.
    let H = history_of w.state in
    let found = c.in_ok-position.ensures.found in
    let conjuncts = conjuncts_of c.in_ok-position.breakpoint.now.detector in
    subst (λ (o : Option Breakpoint). CannotPass P H o refusals.NoCut) (sym found.is)
    (subst (λ (b : Bool). MatchBool b (NoCut P H conjuncts × (refusals.NoCut ≡ refusals.NoCut)) (refusals.NoCut ≡ refusals.NotArmed))
    c.if-not-is_armed.ensures (
      subst (TellsWhether P H conjuncts) (sym c.if-not-has_cut.ensures) (tells_cut P w now c.in_ok-position.breakpoint.now.detector
          (found.detector w are)),
      refl,
    ))

pub returns-clause-passes : goal.returns-clause-passes
returns-clause-passes c =
    let found = c.in_ok-position.ensures.found in (
      ap breakpoints_of c.mark.ensures.marks ∙ found.marked false,
      λ w P are now.
          let H = history_of w.state in
          let d = c.in_ok-position.breakpoint.now.detector in
          subst (MayPass P H) (sym found.is) (
            sym c.if-not-is_armed.ensures,
            subst (TellsWhether P H (conjuncts_of d)) (sym c.if-not-has_cut.ensures) (tells_cut P w now d (found.detector w are)),
          ),
    )
