-- The answers of a session are those that a replay shows.
use Rattle.std.proofs.Common.{◌≡◌, ◌⊎◌, ◌∷◌, inl, inr, ℕ, ◌+◌, ◌<◌, Bool, true, false, List, [], length, get_or, Option, Some, None, ◌-◌, Err}
use Rattle.std.proofs.Common.{refl, sym, ap, ◌∙◌, subst, arith, MatchBool, if◌then◌else◌, ◌&&◌}
use Rattle.std.specs.Prelude.{nat_lt}
use Rattle.std.proofs.lemmas.Bool.{ltb-true}
use Rattle.std.proofs.lemmas.List.{length-take-le}
use Rattle.dbg_base.specs.declared.said.Said.{Said}
use Rattle.dbg_base.specs.declared.said.Said.TheVariants.{Answered, Refused}
use Rattle.dbg_base.specs.declared.said.Answer.TheVariants.{Values, Messages, PlaceOf, CanUndo, Frontier}
use Rattle.dbg_base.specs.declared.refusal.Refusal.TheVariants.{UnknownProcess}
use Rattle.dbg_base.specs.declared.refusal.Refusal.{Refusal}
use Rattle.dbg_base.specs.declared.refusal.Refusal.TheVariants.{NothingToUndo, Consequence}
use Rattle.dbg_base.specs.Trees.{Program, command_of}
use Rattle.dbg_base.specs.Configurations.{Configuration, start_of, values_of, channel_of}
use Rattle.dbg_base.specs.Histories.{History, IsPossible, play}
use Rattle.dbg_base.specs.Orders.{Event, choices_of, target_in}
use Rattle.dbg_base.specs.Clocks.{IsClock}
use Rattle.dbg_base.specs.Predicates.{IsLeast, NoCut}
use Rattle.dbg_base.specs.Frontiers.{IsFrontier, heads_of}
use Rattle.dbg_base.specs.Breakpoints.{Breakpoint, named}
use Rattle.dbg_base.specs.Reversal.{MayUndo, without_last, choice_at_end}
use Rattle.dbg_base.specs.SystemStates.{place_at, line_of, history_of, configuration_of, last_choice, after_undo}
use Rattle.dbg_base.specs.ModelStates.{ModelState}
use Rattle.dbg_base.specs.Choices.{IsNeeded, last_target}
use Rattle.dbg_base.specs.Calls.{Query, Vars, Chan, Clock, Place, Can, CutOf, Why, Breaks, Ask}
use Rattle.dbg_base.specs.Views.{about, TellsClock, TellsUndo, TellsCut, TellsFrontier, AboutFound, Answers}
use Rattle.dbg_base.specs.Journals.{Journal, effective, IsDue}
use Rattle.dbg_base.specs.Reference.{line, IsMessage, IsMaximal}
use Rattle.dbg_base.specs.Sessions.{IsReplay}
use Rattle.dbg_base.specs.Shown.{IsPastOf, ShowsCut, ShowsStop, ShowsUndo, Shows}
use Rattle.dbg_laws.proofs.LineStates.{cut_at, length_cut, history_undo}
use Rattle.dbg_laws.proofs.UndoLemmas.{last_with}
use Rattle.dbg_laws.proofs.OrderSwapLemmas.{takes, length-choices_of}
use Rattle.dbg_laws.proofs.PlayLemmas.{possible}
use Rattle.dbg_laws.proofs.OneOutcome.{cannot_cases}
use Rattle.dbg_laws.proofs.ReachedStateLemmas.{IsReached}
use Rattle.dbg_laws.proofs.EffectiveOrderLemmas.{leads_to_reached, leads_to_once}
use Rattle.dbg_laws.proofs.StopLemmas.{first_stop}
use Rattle.dbg_laws.proofs.ReceiverLemmas.{received}
use Rattle.dbg_laws.proofs.LastEventLemmas.{may_undo}
use Rattle.dbg_laws.proofs.CausalPastLemmas.{clock_knows_all, clock_has_all}
use Rattle.dbg_laws.proofs.ReplayLemmas.{least_is_met, none_is_met}

module _ (P : Program) (J : Journal) (M : ModelState) (E : List Event) (c : Configuration) (is : IsReplay P J M E c) where
  abbrev H : History
  H = choices_of (length P) E

  played : IsPossible P H × (play P H ≡ c)
  played = possible P H E c is.replayed (takes P (start_of P) c E is.replayed)

  pub ends : configuration_of P M.system ≡ c
  ends = ap (play P) (sym is.remain) ∙ played.1

  is_remain : H ≡ history_of M.system
  is_remain = is.remain

  reached : IsReached P M.system
  reached = leads_to_reached P (effective J) M is.leads_to

  -- the place of a process is the number of its events
  place_is : (p : ℕ) → place_at M.system p ≡ length (line P E p)
  place_is p =
      let size = ap (λ (l : List ℕ). length l) (cut_at M.system.lines M.system.places p) in
      let taken = length-take-le (place_at M.system p) (line_of M.system p) (reached.state.within p) in
      let same = ap (λ (X : History). length (get_or X p [])) is.remain in
      omega (arith, size, taken, same)

  clock_shown : (p : ℕ) (cut : List ℕ) → IsClock P (history_of M.system) p (place_at M.system p) cut → IsPastOf P E p cut
  clock_shown p cut clock =
      let here : IsClock P H p (length (line P E p)) cut =
      subst (λ (n : ℕ). IsClock P H p n cut) (place_is p)
      (subst (λ (X : History). IsClock P X p (place_at M.system p) cut) (sym is.remain) clock) in
      record {
        sizes = here.consistent.sizes ∙ length-choices_of (length P) E;
        has = λ q m. (
          clock_knows_all P E played.0 p (length (line P E p)) cut (omega arith) here q m,
          clock_has_all P E p (length (line P E p)) cut here q m,
        );
      }

  cut_shown : (b : Breakpoint) (said : Said) → TellsCut P M b said → ShowsCut P E b said
  cut_shown b said (inl (cut, least, reported)) =
      inl (
        cut,
        least_is_met P E c is.replayed b.conjuncts cut
            (subst (λ (X : History). IsLeast P X b.conjuncts cut) (sym is.remain) least),
        reported,
      )
  cut_shown b said (inr (none, reported)) =
      inr (none_is_met P E c is.replayed b.conjuncts (subst (λ (X : History). NoCut P X b.conjuncts) (sym is.remain) none), reported)

  frontier_shown : (b : Breakpoint) (said : Said) → TellsFrontier P M b said → ShowsStop P E b said
  frontier_shown b said tells =
      let stop = first_stop P E c is.replayed b.conjuncts tells.tuple
      (subst (λ (X : History). IsFrontier P X b.conjuncts tells.tuple) (sym is.remain) tells.is) in (
        tells.tuple,
        stop.0,
        stop.1,
        tells.reported ∙ ap (λ (X : History). Answered (Frontier (heads_of X tells.tuple))) (sym is.remain),
      )

  undo_to : (p : ℕ) → MayUndo P (history_of M.system) p → IsMaximal P E p
  undo_to p may = may_undo P E p played.0 (subst (λ (X : History). MayUndo P X p) (sym is.remain) may)

  -- the process that a refused undo names
  target_of_last : (p q : ℕ) → p < length P → (o : Option ℕ) → last_choice M.system p ≡ o → last_target P M.system p o ≡ Some q
      → target_in (command_of P p (get_or (line P E p) (length (line P E p) - 1) 0)) ≡ Some q
  target_of_last p q here None is to = cc
  target_of_last p q here (Some k) is to =
      let A : History = history_of (after_undo M.system p) in
      let there : p < length A =
      (let a = length_cut M.system.lines (after_undo M.system p).places in
      let b = reached.state.lines in omega (arith, a, b, here)) in
      let last : choice_at_end H p ≡ k =
      ap (λ (X : History). choice_at_end X p) (is_remain ∙ history_undo P M.system reached.state p here k is) ∙ last_with A p k there in
      ap (λ (j : ℕ). target_in (command_of P p j)) last ∙ to

  needed : (p : ℕ) → p < length P → (q : ℕ) → IsNeeded P M.system p q → (n : ℕ) × IsMessage P E p (length (line P E p) - 1) q n
  needed p here q why =
      let some = why.some in
      received P E p q (let e = place_is p in omega (arith, e, some)) played.0
      (λ rest. why.impossible (subst (λ (X : History). IsPossible P (without_last X p)) is_remain rest))
      (target_of_last p q here (last_choice M.system p) refl why.receiver)

  module _ (said : Said) where
    either : {A B C D : Type 0} (t : Bool) → (A → C) → (B → D) → MatchBool t A B → MatchBool t C D
    either true first second = first
    either false first second = second

    no_events : (l : List ℕ) → length l ≡ 0 → l ≡ []
    no_events [] none = refl
    no_events (k ∷ l) none = absurd (omega (arith, none))

    -- the last event may be undone, or why not
    can_shown : (p : ℕ) (t : Bool) → (t ≡ true → p < length P) → MatchBool t (TellsUndo P M.system p said) (said ≡ Refused UnknownProcess)
        → MatchBool t (ShowsUndo P E p said) (said ≡ Refused UnknownProcess)
    can_shown p true here (inl (may, reported)) = inl (undo_to p may, reported)
    can_shown p true here (inr why) = by (cannot_cases P M.system p why.refusal why.why)
      where
        by : ((why.refusal ≡ NothingToUndo) × (place_at M.system p ≡ 0))
            ⊎ ((q : ℕ) × (why.refusal ≡ Consequence (record { 0 = q })) × IsNeeded P M.system p q) → ShowsUndo P E p said
        by (inl (same, none)) =
            inr (inl (
              no_events (line P E p) (sym (place_is p) ∙ none),
              why.reported ∙ ap (λ (r : Refusal). Answered (CanUndo (Err r))) same,
            ))
        by (inr (q, same, need)) =
            let message = needed p (here refl) q need in
            inr (inr (q, message.0, message.1, why.reported ∙ ap (λ (r : Refusal). Answered (CanUndo (Err r))) same))
    can_shown p false here refused = refused

    found_shown : (o : Option Breakpoint) → AboutFound o (λ b. TellsCut P M b said) said → AboutFound o (λ b. ShowsCut P E b said) said
    found_shown None refused = refused
    found_shown (Some b) tells = cut_shown b said tells

    stop_shown : (o : Option Breakpoint) → AboutFound o (λ b. TellsFrontier P M b said) said → AboutFound o (λ b. ShowsStop P E b said) said
    stop_shown None refused = refused
    stop_shown (Some b) tells = frontier_shown b said tells

    shown : (query : Query) → Answers P M query said → Shows P M.breakpoints E c query said
    shown (Vars p) answers = answers ∙ ap (λ (d : Configuration). about P p (Values (values_of d p))) ends
    shown (Chan i j) answers =
        answers
        ∙ ap (λ (d : Configuration). if nat_lt i (length P) && nat_lt j (length P) then Answered (Messages (channel_of d i j))
        else Refused UnknownProcess) ends
    shown (Clock p) answers =
        either (nat_lt p (length P)) (λ (tells : TellsClock P M.system p said). (tells.cut, clock_shown p tells.cut tells.is, tells.reported))
        (λ refused. refused) answers
    shown (Can p) answers =
        can_shown p (nat_lt p (length P)) (ltb-true p (length P)) answers
    shown (CutOf name) answers = found_shown (named name M.breakpoints) answers
    shown (Place p) answers =
        let few = reached.state.within p in
        let at = place_is p in
        let size : length (line_of M.system p) ≡ length (line P E p) + (length (line_of M.system p) - length (line P E p)) =
        omega (arith, few, at) in (
          length (line_of M.system p) - length (line P E p),
          answers
              ∙ ap (λ (n : ℕ). about P p (PlaceOf n (length (line_of M.system p)))) at
              ∙ ap (λ (n : ℕ). about P p (PlaceOf (length (line P E p)) n)) size,
        )
    shown (Why name) answers = stop_shown (named name M.breakpoints) answers
    shown Breaks answers = answers

  pub shows : (seat : ℕ) (query : Query) (said : Said) → IsDue P (effective J) seat (Ask query) said → Shows P M.breakpoints E c query said
  shows seat query said due =
      let same : due.0 ≡ M = leads_to_once P (effective J) M due.0 is.leads_to due.1 in
      shown said query (subst (λ (K : ModelState). Answers P K query said) same due.2)
