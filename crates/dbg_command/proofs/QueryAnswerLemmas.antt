-- The answer to a query.
use Rattle.std.proofs.Common.{◌≡◌, ℕ, ◌<◌, Bool, List, length, Option, Some, None, Ok, Err, refl, sym, ap, ◌∙◌, subst, inl, inr, MatchBool}
use Rattle.std.proofs.lemmas.Bool.{lt-ltb}
use Rattle.dbg_base.specs.declared.said.Said.{Said}
use Rattle.dbg_base.specs.declared.said.Said.TheVariants.{Answered, Refused}
use Rattle.dbg_base.specs.declared.said.Answer.TheVariants.{Counts, CutIs, Frontier}
use Rattle.dbg_base.specs.declared.said.Head.{Head}
use Rattle.dbg_base.specs.declared.refusal.Refusal.{Refusal}
use Rattle.dbg_base.specs.declared.refusal.Refusal.TheVariants.{UnknownProcess}
use Rattle.dbg_base.specs.Trees.{Program}
use Rattle.dbg_base.specs.Clocks.{IsClock}
use Rattle.dbg_base.specs.Predicates.{IsLeast, NoCut}
use Rattle.dbg_base.specs.Breakpoints.{Breakpoint, named}
use Rattle.dbg_base.specs.SystemStates.{place_at, history_of}
use Rattle.dbg_base.specs.ModelStates.{ModelState}
use Rattle.dbg_base.specs.Calls.{Clock, CutOf, Why}
use Rattle.dbg_base.specs.Views.{AboutFound, TellsClock, TellsCut, TellsFrontier}
use Rattle.causal_world.specs.Scenes.{Scene, IsWorldOf}
use Rattle.least_cut.specs.Detectors as detector
use Rattle.least_cut.specs.Detectors.{DetectorState, IsDetectorOf, conjuncts_of}
use Rattle.break_book.specs.Books.{Kept, Entry, breakpoint_of, breakpoints_of, AreDetectorsOf}
use Rattle.dbg_command.specs.Boxes.{HasNamed}
use Rattle.dbg_command.specs.Tables.{TableState, IsTableOf, IsCutOf, AnswersOrRefuses, state_of}

-- the clock of an existing process
pub tells_clock : (P : Program) (M : ModelState) (p : ℕ) (cut : List ℕ) → p < length P
    → IsClock P (history_of M.system) p (place_at M.system p) cut → AnswersOrRefuses P M (Clock p) (Ok (Counts cut))
tells_clock P M p cut here is = inl (subst
    (λ (t : Bool). MatchBool t (TellsClock P M.system p (Answered (Counts cut))) (Answered (Counts cut) ≡ Refused UnknownProcess))
    (sym (lt-ltb p (length P) here)) (record { cut = cut; is = is; reported = refl }))

-- the cut of a breakpoint, as an answer
pub tells_cut : (P : Program) (M : ModelState) (name : List ℕ) (cut : Option (List ℕ)) → IsCutOf P M name (Ok cut)
    → AnswersOrRefuses P M (CutOf name) (Ok (CutIs cut))
tells_cut P M name (Some cut) has =
    let said : Said = Answered (CutIs (Some cut)) in
    inl (subst (λ (o : Option Breakpoint). AboutFound o (λ b. TellsCut P M b said) said) (sym has.1) (inl (cut, has.2, refl)))
tells_cut P M name None has =
    let said : Said = Answered (CutIs None) in
    inl (subst (λ (o : Option Breakpoint). AboutFound o (λ b. TellsCut P M b said) said) (sym has.1) (inr (has.2, refl)))

pub tells_no_break : (P : Program) (M : ModelState) (name : List ℕ) (refusal : Refusal) → IsCutOf P M name (Err refusal)
    → AnswersOrRefuses P M (CutOf name) (Err refusal)
tells_no_break P M name refusal (inl lacks) =
    let said : Said = Refused refusal in
    inl (subst (λ (o : Option Breakpoint). AboutFound o (λ b. TellsCut P M b said) said) (sym lacks.none)
    (ap (λ (r : Refusal). Refused r) lacks.is))
tells_no_break P M name refusal (inr e) = inr (ap (λ (r : Refusal). Err r) e)

-- a breakpoint that was found is there
pub found_here : (t : TableState) (name : List ℕ) (kept : Kept) (book : List Entry) → book ≡ t.book
    → named name (breakpoints_of book) ≡ Some (breakpoint_of (name, kept)) → HasNamed name (state_of t)
found_here t name kept book same there = (
  breakpoint_of (name, kept),
  ap (λ (l : List Entry). named name (breakpoints_of l)) (sym same) ∙ there,
)

-- a breakpoint that was found, and its detector
module _ (P : Program) (t : TableState) (is : IsTableOf P t) (name : List ℕ) (kept : Kept) (book : List Entry) (same : book ≡ t.book)
    (there : named name (breakpoints_of book) ≡ Some (breakpoint_of (name, kept)))
    (of : (w : Scene) → AreDetectorsOf w book → IsDetectorOf w kept.detector) (d : DetectorState) (own : d ≡ kept.detector) where
  abbrev M : ModelState
  M = state_of t

  detects : IsDetectorOf t.world d
  detects =
      subst (IsDetectorOf t.world) (sym own) (of t.world (subst (AreDetectorsOf t.world) (sym same) is.detectors))

  -- an answer about this breakpoint
  found : (Tells : Breakpoint → Type 0) (said : Said) → Tells (breakpoint_of (name, kept))
      → AboutFound (named name (breakpoints_of t.book)) Tells said
  found Tells said tells =
      subst (λ (o : Option Breakpoint). AboutFound o Tells said)
      (sym (ap (λ (l : List Entry). named name (breakpoints_of l)) (sym same) ∙ there)) tells

  pub has_least : (cut made : List ℕ) → ((w : Scene) (Q : Program) → IsDetectorOf w d → IsWorldOf Q w
      → IsLeast Q (history_of w.state) (conjuncts_of d) cut) → made ≡ cut → IsCutOf P M name (Ok (Some made))
  has_least cut made least e = (
    breakpoint_of (name, kept),
    ap (λ (l : List Entry). named name (breakpoints_of l)) (sym same) ∙ there,
    subst (λ (c : List ℕ). IsLeast P (history_of t.world.state) (conjuncts_of kept.detector) c) (sym e)
        (subst (λ (x : DetectorState). IsLeast P (history_of t.world.state) (conjuncts_of x) cut) own (least t.world P detects is.world)),
  )

  pub has_no_cut : ((w : Scene) (Q : Program) → IsDetectorOf w d → IsWorldOf Q w → NoCut Q (history_of w.state) (conjuncts_of d))
      → IsCutOf P M name (Ok None)
  has_no_cut none = (
    breakpoint_of (name, kept),
    ap (λ (l : List Entry). named name (breakpoints_of l)) (sym same) ∙ there,
    subst (λ (x : DetectorState). NoCut P (history_of t.world.state) (conjuncts_of x)) own (none t.world P detects is.world),
  )

  pub tells_frontier : (heads : List Head) → ((w : Scene) (Q : Program) → IsDetectorOf w d → IsWorldOf Q w
      → detector.TellsFrontier Q (history_of w.state) (conjuncts_of d) heads) → AnswersOrRefuses P M (Why name) (Ok (Frontier heads))
  tells_frontier heads tells =
      let said : Said = Answered (Frontier heads) in
      let reported = subst (λ (x : DetectorState). detector.TellsFrontier P (history_of t.world.state) (conjuncts_of x) heads) own
      (tells t.world P detects is.world) in
      inl (found (λ b. TellsFrontier P M b said) said (record {
        tuple = reported.tuple;
        is = reported.is;
        reported = ap (λ (l : List Head). Answered (Frontier l)) reported.reported;
      }))
