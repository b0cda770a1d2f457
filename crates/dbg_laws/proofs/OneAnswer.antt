-- The orders that count determine the answer to a call.
use Rattle.std.proofs.Common.{◌≡◌, inl, inr, ℕ, ◌<◌, Bool, true, false, List, length, Option, Some, None, Err, refl, sym, ap, ◌∙◌, subst, MatchBool}
use Rattle.std.specs.Prelude.{nat_lt, ◌==◌}
use Rattle.std.proofs.lemmas.Bool.{ltb-true}
use Rattle.dbg_base.specs.declared.said.Said.{Said}
use Rattle.dbg_base.specs.declared.said.Said.TheVariants.{Answered, Refused}
use Rattle.dbg_base.specs.declared.said.Done.TheVariants.{Plain}
use Rattle.dbg_base.specs.declared.said.Answer.TheVariants.{Counts, CanUndo, CutIs, Frontier}
use Rattle.dbg_base.specs.declared.refusal.Refusal.{Refusal}
use Rattle.dbg_base.specs.declared.refusal.Refusal.TheVariants.{UnknownProcess, OtherSeat}
use Rattle.dbg_base.specs.Trees.{Program}
use Rattle.dbg_base.specs.Histories.{History}
use Rattle.dbg_base.specs.Clocks.{IsClock}
use Rattle.dbg_base.specs.Predicates.{Conjunct}
use Rattle.dbg_base.specs.Frontiers.{IsFrontier, heads_of}
use Rattle.dbg_base.specs.Breakpoints.{Breakpoint, named}
use Rattle.dbg_base.specs.Reversal.{without_back}
use Rattle.dbg_base.specs.SystemStates.{place_at, history_of}
use Rattle.dbg_base.specs.ModelStates.{ModelState}
use Rattle.dbg_base.specs.Calls.{Query, Vars, Chan, Clock, Place, Can, CutOf, Why, Breaks, Call, Give, Back, Ask}
use Rattle.dbg_base.specs.Acts.{Accepts, Follows}
use Rattle.dbg_base.specs.Views.{TellsClock, TellsUndo, TellsCut, TellsFrontier, AboutFound, Answers}
use Rattle.dbg_base.specs.Journals.{Given, LeadsTo, last_given, AnswersBack, IsDue}
use Rattle.dbg_laws.proofs.ReachedStateLemmas.{IsReached}
use Rattle.dbg_laws.proofs.CutLatticeLemmas.{same_cut, one_least}
use Rattle.dbg_laws.proofs.OneOutcome.{changes_one, one_cannot, may_or_stays, one_outcome}
use Rattle.dbg_laws.proofs.EffectiveOrderLemmas.{leads_to_reached, leads_to_once}

-- A clock and a frontier are determined.

pub one_clock : (P : Program) (H : History) (p n : ℕ) (c d : List ℕ) → IsClock P H p n c → IsClock P H p n d → c ≡ d
one_clock P H p n c d is other =
    same_cut c d (is.consistent.sizes ∙ sym other.consistent.sizes) (is.least d other.consistent other.reaches)
    (other.least c is.consistent is.reaches)

one_frontier : (P : Program) (H : History) (conjuncts : List Conjunct) (c d : List ℕ) → IsFrontier P H conjuncts c
    → IsFrontier P H conjuncts d → c ≡ d
one_frontier P H conjuncts c d is other =
    same_cut c d (is.settled.sizes ∙ sym other.settled.sizes) (is.least d other.settled) (other.least c is.settled)

-- One of two answers applies, by a test or by whether a breakpoint is found.

module _ (said other : Said) where
  either_once : (t : Bool) (A B : Said → Type 0) → (t ≡ true → A said → A other → said ≡ other) → (B said → B other → said ≡ other)
      → MatchBool t (A said) (B said) → MatchBool t (A other) (B other) → said ≡ other
  either_once true A B first second = first refl
  either_once false A B first second = second

  about_once : (P : Program) (p : ℕ) (Tells : Said → Type 0) → (p < length P → Tells said → Tells other → said ≡ other)
      → MatchBool (nat_lt p (length P)) (Tells said) (said ≡ Refused UnknownProcess)
      → MatchBool (nat_lt p (length P)) (Tells other) (other ≡ Refused UnknownProcess) → said ≡ other
  about_once P p Tells once =
      either_once (nat_lt p (length P)) Tells (λ s. s ≡ Refused UnknownProcess) (λ here. once (ltb-true p (length P) here))
      (λ is too. is ∙ sym too)

  found_once : (o : Option Breakpoint) (Tells : Breakpoint → Said → Type 0)
      → ((b : Breakpoint) → Tells b said → Tells b other → said ≡ other) → AboutFound o (λ b. Tells b said) said
      → AboutFound o (λ b. Tells b other) other → said ≡ other
  found_once None Tells once is too = is ∙ sym too
  found_once (Some b) Tells once is too = once b is too

-- Queries.

module _ (P : Program) (M : ModelState) (reached : IsReached P M.system) (said other : Said) where
  clock_once : (p : ℕ) → TellsClock P M.system p said → TellsClock P M.system p other → said ≡ other
  clock_once p is too =
      is.reported
      ∙ ap (λ (cut : List ℕ). Answered (Counts cut))
      (one_clock P (history_of M.system) p (place_at M.system p) is.cut too.cut is.is too.is)
      ∙ sym too.reported

  undo_once : (p : ℕ) → p < length P → TellsUndo P M.system p said → TellsUndo P M.system p other → said ≡ other
  undo_once p here (inl may) (inl too) = may.1 ∙ sym too.1
  undo_once p here (inl may) (inr stays) =
      absurd (may_or_stays P M reached.state reached.possible p here stays.refusal may.0 stays.why)
  undo_once p here (inr stays) (inl may) =
      absurd (may_or_stays P M reached.state reached.possible p here stays.refusal may.0 stays.why)
  undo_once p here (inr stays) (inr too) =
      stays.reported
      ∙ ap (λ (refusal : Refusal). Answered (CanUndo (Err refusal))) (one_cannot P M.system p too.refusal stays.refusal too.why stays.why)
      ∙ sym too.reported

  cut_once : (b : Breakpoint) → TellsCut P M b said → TellsCut P M b other → said ≡ other
  cut_once b (inl is) (inl too) =
      is.2
      ∙ ap (λ (cut : List ℕ). Answered (CutIs (Some cut))) (one_least P (history_of M.system) b.conjuncts is.0 too.0 is.1 too.1)
      ∙ sym too.2
  cut_once b (inl is) (inr none) = absurd (none.0 is.0 is.1.satisfies)
  cut_once b (inr none) (inl is) = absurd (none.0 is.0 is.1.satisfies)
  cut_once b (inr none) (inr too) = none.1 ∙ sym too.1

  frontier_once : (b : Breakpoint) → TellsFrontier P M b said → TellsFrontier P M b other → said ≡ other
  frontier_once b is too =
      is.reported
      ∙ ap (λ (tuple : List ℕ). Answered (Frontier (heads_of (history_of M.system) tuple)))
      (one_frontier P (history_of M.system) b.conjuncts is.tuple too.tuple is.is too.is)
      ∙ sym too.reported

  pub answers_once : (query : Query) → Answers P M query said → Answers P M query other → said ≡ other
  answers_once (Vars p) is too = is ∙ sym too
  answers_once (Chan i j) is too = is ∙ sym too
  answers_once (Clock p) is too = about_once said other P p (TellsClock P M.system p) (λ here. clock_once p) is too
  answers_once (Place p) is too = is ∙ sym too
  answers_once (Can p) is too = about_once said other P p (TellsUndo P M.system p) (undo_once p) is too
  answers_once (CutOf name) is too = found_once said other (named name M.breakpoints) (TellsCut P M) cut_once is too
  answers_once (Why name) is too = found_once said other (named name M.breakpoints) (TellsFrontier P M) frontier_once is too
  answers_once Breaks is too = is ∙ sym too

-- The answer to a seat that gives `back`.

module _ (P : Program) (given : List Given) (seat : ℕ) (said other : Said) where
  abbrev TakesBack : Said → Type 0
  TakesBack s = (M : ModelState) × LeadsTo P (without_back given) M × Accepts P Plain s M

  taken_once : TakesBack said → TakesBack other → said ≡ other
  taken_once is too =
      let one = changes_one P Plain is.0 in
      let same : too.0 ≡ is.0 = leads_to_once P (without_back given) is.0 too.0 is.1 too.1 in
      (one.only said is.0 (is.2, refl)).0
      ∙ sym (one.only other is.0 (subst (λ (M : ModelState). Accepts P Plain other M) same too.2, refl)).0

  back_once : (last : Option Given) → AnswersBack P given seat last said → AnswersBack P given seat last other → said ≡ other
  back_once None is too = is ∙ sym too
  back_once (Some last) is too =
      either_once said other (last.seat == seat) TakesBack (λ s. s ≡ Refused (OtherSeat last.seat)) (λ same. taken_once)
      (λ one two. one ∙ sym two) is too

-- the answer to a call, given the orders that count
pub due_once : (P : Program) (given : List Given) (seat : ℕ) (call : Call) (said other : Said) → IsDue P given seat call said
    → IsDue P given seat call other → said ≡ other
due_once P given seat (Give order) said other is too =
    let reached = leads_to_reached P given is.0 is.2 in
    let one = one_outcome P order is.0 reached.state reached.possible in
    let same : too.0 ≡ is.0 = leads_to_once P given is.0 too.0 is.2 too.2 in
    (one.only said is.1 is.3).0 ∙ sym (one.only other too.1 (subst (λ (M : ModelState). Follows P order M other too.1) same too.3)).0
due_once P given seat Back said other is too = back_once P given seat said other (last_given given) is too
due_once P given seat (Ask query) said other is too =
    let same : too.0 ≡ is.0 = leads_to_once P given is.0 too.0 is.1 too.1 in
    answers_once P is.0 (leads_to_reached P given is.0 is.1) said other query is.2
    (subst (λ (M : ModelState). Answers P M query other) same too.2)
