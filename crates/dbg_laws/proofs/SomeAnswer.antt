-- Each further call has an answer that is due.
use Rattle.std.proofs.Common.{◌≡◌, ◌⊎◌, inl, inr, ℕ, zero, suc, ◌-◌, ◌<◌, ◌≤◌, Bool, true, false, List, [], ◌∷◌, length, take, get_or}
use Rattle.std.proofs.Common.{Option, Some, None, Ok, Err, refl, sym, ap, ◌∙◌, subst, arith, MatchBool}
use Rattle.std.specs.Prelude.{nat_lt, ◌==◌}
use Rattle.std.specs.List.{AllByRecursion}
use Rattle.std.proofs.lemmas.List.{length-take-le}
use Rattle.dbg_base.specs.declared.said.Said.{Said}
use Rattle.dbg_base.specs.declared.said.Said.TheVariants.{Answered, Refused}
use Rattle.dbg_base.specs.declared.said.Done.TheVariants.{Plain}
use Rattle.dbg_base.specs.declared.said.Answer.TheVariants.{Counts, CanUndo, CutIs, Frontier}
use Rattle.dbg_base.specs.declared.refusal.Refusal.TheVariants.{UnknownProcess, UnknownBreak, NothingBack, OtherSeat}
use Rattle.dbg_base.specs.Trees.{Program}
use Rattle.dbg_base.specs.Histories.{History, IsPossible}
use Rattle.dbg_base.specs.Orders.{choices_of}
use Rattle.dbg_base.specs.Clocks.{IsClock}
use Rattle.dbg_base.specs.Predicates.{Conjunct, IsLeast, NoCut}
use Rattle.dbg_base.specs.Frontiers.{heads_of}
use Rattle.dbg_base.specs.Breakpoints.{Breakpoint, named}
use Rattle.dbg_base.specs.Reversal.{without_back}
use Rattle.dbg_base.specs.SystemStates.{place_at, line_of, history_of}
use Rattle.dbg_base.specs.ModelStates.{ModelState, opening}
use Rattle.dbg_base.specs.Calls.{Query, Vars, Chan, Clock, Place, Can, CutOf, Why, Breaks, Call, Give, Back, Ask, One, Undo}
use Rattle.dbg_base.specs.Acts.{Accepts, Refuses, TakesBack, KeepsEvent}
use Rattle.dbg_base.specs.Views.{TellsClock, TellsUndo, TellsCut, TellsFrontier, AboutFound, Answers}
use Rattle.dbg_base.specs.Journals.{Journal, Given, Leads, LeadsTo, IsLegal, effective, last_given, AnswersBack, IsDue}
use Rattle.dbg_laws.proofs.LineStates.{cut_at, length_cut}
use Rattle.dbg_laws.proofs.ReachedStateLemmas.{IsReached}
use Rattle.dbg_laws.proofs.PlayLemmas.{listed}
use Rattle.dbg_laws.proofs.CutLatticeLemmas.{least_or_none}
use Rattle.dbg_laws.proofs.OneOutcome.{changes_one, one_outcome}
use Rattle.dbg_laws.proofs.EffectiveOrderLemmas.{legal_leads_to, leads_to_reached}
use Rattle.dbg_laws.proofs.CausalPastLemmas.{clock_there}
use Rattle.dbg_laws.proofs.SomeReplay.{choices_are}
use Rattle.dbg_laws.proofs.FrontierLemmas.{frontier_there}
use Rattle.dbg_laws.proofs.SetBreakpointLemmas.{AreThere, named_there, leads_to_there}

-- the first of some orders lead somewhere
leads_first : (P : Program) (given : List Given) (n : ℕ) (M N : ModelState) → Leads P given M N → (K : ModelState) × Leads P (take n given) M K
leads_first P given zero M N leads = (M, refl)
leads_first P [] (suc n) M N leads = (M, refl)
leads_first P (first ∷ given) (suc n) M N leads =
    let rest = leads_first P given n leads.1 N leads.3 in
    (rest.0, (leads.0, leads.1, leads.2, rest.1))

module _ (P : Program) (given : List Given) (N : ModelState) (leads_to : LeadsTo P given N) (seat : ℕ) where
  some_back : (last : Option Given) → (said : Said) × AnswersBack P given seat last said
  some_back None = (Refused NothingBack, refl)
  some_back (Some last) = by (last.seat == seat)
    where
      by : (same : Bool) → (said : Said)
          × MatchBool same ((M : ModelState) × LeadsTo P (without_back given) M × Accepts P Plain said M) (said ≡ Refused (OtherSeat last.seat))
      by true =
          let front = leads_first P given (length given - 1) (opening P) N leads_to in
          let one = changes_one P Plain front.0 in
          (one.said, (front.0, front.1, subst (λ (K : ModelState). Accepts P Plain one.said K) one.is.1 one.is.0))
      by false = (Refused (OtherSeat last.seat), refl)

-- the answers to queries, at a state with a replay
module _ (P : Program) (J : Journal) (M : ModelState) (leads_to : LeadsTo P (effective J) M) where
  reached : IsReached P M.system
  reached = leads_to_reached P (effective J) M leads_to

  some_clock_at : (p n : ℕ) → n ≤ length (get_or (history_of M.system) p []) → (cut : List ℕ) × IsClock P (history_of M.system) p n cut
  some_clock_at p n few =
      let H = history_of M.system in
      let l = listed P H reached.possible in
      let same : choices_of (length P) l.events ≡ H =
      choices_are (length P) H l.events (length_cut M.system.lines M.system.places ∙ reached.state.lines) l.takes in
      let found = clock_there P l.events (subst (λ (X : History). IsPossible P X) (sym same) reached.possible) p n
      (subst (λ (X : History). n ≤ length (get_or X p [])) (sym same) few) in
      (found.0, subst (λ (X : History). IsClock P X p n found.0) same found.1)

  some_clock : (p : ℕ) → (cut : List ℕ) × IsClock P (history_of M.system) p (place_at M.system p) cut
  some_clock p =
      let events : length (get_or (history_of M.system) p []) ≡ place_at M.system p =
      ap (λ (l : List ℕ). length l) (cut_at M.system.lines M.system.places p)
      ∙ length-take-le (place_at M.system p) (line_of M.system p) (reached.state.within p) in
      some_clock_at p (place_at M.system p) (omega (arith, events))

  some_asked : (query : Query) → (said : Said) × Answers P M query said
  some_asked (Vars p) = (_, refl)
  some_asked (Chan i j) = (_, refl)
  some_asked (Clock p) = by (nat_lt p (length P))
    where
      by : (here : Bool) → (said : Said) × MatchBool here (TellsClock P M.system p said) (said ≡ Refused UnknownProcess)
      by true =
          let clock = some_clock p in
          (Answered (Counts clock.0), record { cut = clock.0; is = clock.1; reported = refl })
      by false = (Refused UnknownProcess, refl)
  some_asked (Place p) = (_, refl)
  some_asked (Can p) =
      let one = one_outcome P (One (Undo p)) M reached.state reached.possible in
      by (nat_lt p (length P)) one.said one.left one.is
    where
      by : (here : Bool) (said : Said) (after : ModelState)
          → MatchBool here (TakesBack P p M said after ⊎ KeepsEvent P p M said after) (Refuses UnknownProcess M said after)
          → (other : Said) × MatchBool here (TellsUndo P M.system p other) (other ≡ Refused UnknownProcess)
      by true said after (inl takes) = (Answered (CanUndo (Ok tt)), inl (takes.may, refl))
      by true said after (inr keeps) =
          (Answered (CanUndo (Err keeps.refusal)), inr (record { refusal = keeps.refusal; why = keeps.why; reported = refl }))
      by false said after refused = (Refused UnknownProcess, refl)
  some_asked (CutOf name) = by (named name M.breakpoints)
    where
      cut_of : (b : Breakpoint) → ((cut : List ℕ) × IsLeast P (history_of M.system) b.conjuncts cut) ⊎ NoCut P (history_of M.system) b.conjuncts
          → (said : Said) × TellsCut P M b said
      cut_of b (inl found) = (Answered (CutIs (Some found.0)), inl (found.0, found.1, refl))
      cut_of b (inr none) = (Answered (CutIs None), inr (none, refl))

      by : (o : Option Breakpoint) → (said : Said) × AboutFound o (λ b. TellsCut P M b said) said
      by None = (Refused UnknownBreak, refl)
      by (Some b) = cut_of b (least_or_none P (history_of M.system) b.conjuncts)
  some_asked (Why name) = by (named name M.breakpoints) refl
    where
      by : (o : Option Breakpoint) → named name M.breakpoints ≡ o → (said : Said) × AboutFound o (λ b. TellsFrontier P M b said) said
      by None none = (Refused UnknownBreak, refl)
      by (Some b) found =
          let H = history_of M.system in
          let size : length P ≡ length H = sym (length_cut M.system.lines M.system.places ∙ reached.state.lines) in
          let there : AreThere P b.conjuncts =
          named_there P name M.breakpoints b found (leads_to_there P (effective J) M leads_to) in
          let frontier = frontier_there P H some_clock_at b.conjuncts
          (subst (λ (n : ℕ). AllByRecursion (λ (c : Conjunct). c.process < n) b.conjuncts) size there) in
          (Answered (Frontier (heads_of H frontier.0)), record { tuple = frontier.0; is = frontier.1; reported = refl })
  some_asked Breaks = (_, refl)

pub some_due : (P : Program) (J : Journal) → IsLegal P J → (seat : ℕ) (call : Call)
    → (said : Said) × IsDue P (effective J) seat call said
some_due P J legal seat (Give order) =
    let leads_to = legal_leads_to P J legal in
    let M : ModelState = leads_to.0 in
    let reached = leads_to_reached P (effective J) M leads_to.1 in
    let one = one_outcome P order M reached.state reached.possible in
    (one.said, (M, one.left, leads_to.1, one.is))
some_due P J legal seat Back =
    let leads_to = legal_leads_to P J legal in
    some_back P (effective J) leads_to.0 leads_to.1 seat (last_given (effective J))
some_due P J legal seat (Ask query) =
    let leads_to = legal_leads_to P J legal in
    let asked = some_asked P J leads_to.0 leads_to.1 query in
    (asked.0, (leads_to.0, leads_to.1, asked.1))
