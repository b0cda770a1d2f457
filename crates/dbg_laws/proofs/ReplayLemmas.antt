-- The events of a closed set fire alone, in the order of E, and the local states after them are those that a predicate is judged in.
use Rattle.std.proofs.Common.{◌≡◌, ⊎_elim, ℕ, ◌<◌, ◌≤◌, true, List, [], ◌∷◌, length}
use Rattle.std.proofs.Common.{get_or, map, Ok, refl, sym, ap, ◌∙◌, subst, arith}
use Rattle.std.specs.List.{AllByRecursion}
use Rattle.std.proofs.lemmas.Bool.{cases_lt}
use Rattle.std.proofs.lemmas.List.{get_or_past, length-set, length-map, length-append}
use Rattle.dbg_base.specs.Trees.{Program, command_of}
use Rattle.dbg_base.specs.LocalStates.{LocalState, no_state, start_among}
use Rattle.dbg_base.specs.Configurations.{Configuration, start_of, state_in}
use Rattle.dbg_base.specs.Firing.{fire}
use Rattle.dbg_base.specs.Histories.{History, IsPossible, play, progress_of, local_state}
use Rattle.dbg_base.specs.Orders.{Event, order, order_from, choices_of, with_last, states_from, with_state_of, IsLegalOrder}
use Rattle.dbg_base.specs.Cuts.{IsConsistent, history_at}
use Rattle.dbg_base.specs.Predicates.{Conjunct, is_true, holds, Satisfies, IsLeast, NoCut}
use Rattle.dbg_base.specs.Reversal.{without_last, choice_at_end, IsPermitted, after_undos}
use Rattle.dbg_base.specs.Reference.{IsClosed, events_of, IsMet, IsLeastMet}
use Rattle.dbg_laws.proofs.Moves.{fires}
use Rattle.dbg_laws.proofs.OrderSwapLemmas.{IsOrderOf, first_step, takes}
use Rattle.dbg_laws.proofs.PlayLemmas.{possible, listed, states_step}
use Rattle.dbg_laws.proofs.PrefixLemmas.{last_fires, local_kept, last_state}
use Rattle.dbg_laws.proofs.UndoLemmas.{with_without, within_without}
use Rattle.dbg_laws.proofs.ConsistentCutLemmas.{Ordered, ordered_at, counts_at}
use Rattle.dbg_laws.proofs.UndoneCutLemmas.{prefix_after, undos_to}
use Rattle.dbg_laws.proofs.ClosedSetLemmas.{closed, consistent}

-- The local states of the part are those of the whole.

-- undos leave the earlier local states of each process
states_stay : (P : Program) (H : History) (undos : List ℕ) → IsPossible P H → IsPermitted P H undos → (q n : ℕ) → q < length P
    → n ≤ length (get_or (after_undos H undos) q []) → local_state P H q n ≡ local_state P (after_undos H undos) q n
states_stay P H [] all permitted q n there few = refl
states_stay P H (p ∷ undos) all permitted q n there few =
    let may = permitted.0 in
    let B : History = without_last H p in
    let k : ℕ = choice_at_end H p in
    let same : with_last B p k ≡ H = with_without H p may.some in
    let within = within_without H p may.some in
    let longer : IsPossible P (with_last B p k) = subst (λ (X : History). IsPossible P X) (sym same) all in
    let l = (prefix_after P B undos permitted.1).lines q in
    let size = ap (λ (x : List ℕ). length x) l.1 in
    let sum = length-append (get_or (after_undos B undos) q []) l.0 in
    sym (ap (λ (X : History). local_state P X q n) same)
    ∙ local_kept P B p k q n (play P (with_last B p k)) may.rest within (last_fires P B p k within may.rest longer) there
    (omega (arith, few, size, sum))
    ∙ states_stay P B undos may.rest permitted.1 q n there few

-- a process that does not exist has no local state
size_order : (P : Program) (c d : Configuration) (E : List Event) → order_from P c E ≡ Ok d → length d.states ≡ length c.states
size_order P c d [] legal = let same : c ≡ d = cc in ap (λ (x : Configuration). length x.states) (sym same)
size_order P c d (e ∷ E) legal =
    let step = first_step (fire P c e.process e.choice) (λ x. order_from P x E) d legal in
    let f = fires (command_of P e.process e.choice) c e.process step.0 step.1 in
    size_order P step.0 d E step.2 ∙ ap (λ (x : Configuration). length x.states) f.leads ∙ length-set c.states e.process f.state

size_states : (P : Program) (c d : Configuration) (states : List (List LocalState)) (E : List Event) → order_from P c E ≡ Ok d
    → length (states_from P c states E) ≡ length states
size_states P c d states [] legal = refl
size_states P c d states (e ∷ E) legal =
    let step = first_step (fire P c e.process e.choice) (λ x. order_from P x E) d legal in
    ap (λ (x : List (List LocalState)). length x) (states_step P c step.0 states e E step.1)
    ∙ size_states P step.0 d (with_state_of states e.process step.0) E step.2
    ∙ length-set states e.process _

module _ (P : Program) where
  size_start : length (start_of P).states ≡ length P
  size_start = length-map P (start_among (length P))

  none_at_end : (d : Configuration) (E : List Event) (q : ℕ) → order P E ≡ Ok d → length P ≤ q → state_in d q ≡ no_state
  none_at_end d E q legal past =
      let size = size_order P (start_of P) d E legal in
      let start = size_start in
      get_or_past d.states q no_state (omega (arith, size, start, past))

  none_local : (H : History) (q n : ℕ) → IsPossible P H → length P ≤ q → local_state P H q n ≡ no_state
  none_local H q n all past =
      let l = listed P H all in
      let opening = map (λ (state : LocalState). state ∷ []) (start_of P).states in
      let size = size_states P (start_of P) (play P H) opening l.events l.legal in
      let start = size_start in
      let more = length-map (start_of P).states (λ (state : LocalState). state ∷ []) in
      let same = ap (λ (x : List (List LocalState)). length x) l.states in
      ap (λ (l : List LocalState). get_or l n no_state)
      (get_or_past (progress_of P H).states q [] (omega (arith, size, start, more, same, past)))

-- The replay of a closed set.
module _ (P : Program) (E : List Event) (c : Configuration) (legal : order P E ≡ Ok c) where
  abbrev H : History
  H = choices_of (length P) E

  whole : IsOrderOf H E
  whole = takes P (start_of P) c E legal

  all : IsPossible P H
  all = (possible P H E c legal whole).0

  module _ (cut : List ℕ) (is : IsConsistent P H cut) where
    abbrev F : History
    F = history_at H cut

    part : Ordered P (start_of P) F cut E
    part = ordered_at P H E c legal whole cut is

    pub part_end : Configuration
    part_end = part.end

    pub part_legal : order P (events_of cut E) ≡ Ok part_end
    unfolding part_end
    part_legal = part.legal

    pub part_takes : IsOrderOf F (events_of cut E)
    part_takes = part.takes

    -- its local states are those of the whole history at the cut
    pub part_state : (d : Configuration) → order P (events_of cut E) ≡ Ok d → (q : ℕ)
        → local_state P H q (get_or cut q 0) ≡ state_in d q
    part_state d ends q =
        ⊎_elim
        (λ (there : q < length P).
        let led = undos_to P H cut all is in
        let p = possible P F (events_of cut E) d ends part_takes in
        let few : get_or cut q 0 ≤ length (get_or (after_undos H led.undos) q []) =
        (let n = counts_at P H E c legal whole cut is q in let e = ap (λ (X : History). length (get_or X q [])) led.leads in omega (arith, n, e)) in
        states_stay P H led.undos all led.permitted q (get_or cut q 0) there few
        ∙ ap (λ (X : History). local_state P X q (get_or cut q 0)) led.leads
        ∙ ap (λ (n : ℕ). local_state P F q n) (counts_at P H E c legal whole cut is q)
        ∙ last_state P F q p.0 there
        ∙ ap (λ (x : Configuration). state_in x q) p.1)
        (λ (past : length P ≤ q). none_local P H q (get_or cut q 0) all past ∙ sym (none_at_end P d (events_of cut E) q ends past))
        (cases_lt q (length P))

    -- a conjunct is judged after the replay
    abbrev Before : List Conjunct → Type 0
    Before conjuncts = AllByRecursion (λ conjunct. is_true P H conjunct (get_or cut conjunct.process 0) ≡ true) conjuncts

    abbrev After : Configuration → List Conjunct → Type 0
    After d conjuncts = AllByRecursion (λ conjunct. holds conjunct.expression (state_in d conjunct.process) ≡ true) conjuncts

    judged : (d : Configuration) → order P (events_of cut E) ≡ Ok d → (conjunct : Conjunct)
        → is_true P H conjunct (get_or cut conjunct.process 0) ≡ holds conjunct.expression (state_in d conjunct.process)
    judged d ends conjunct = ap (λ (s : LocalState). holds conjunct.expression s) (part_state d ends conjunct.process)

    pub all_after : (d : Configuration) → order P (events_of cut E) ≡ Ok d → (conjuncts : List Conjunct) → Before conjuncts
        → After d conjuncts
    all_after d ends [] before = tt
    all_after d ends (conjunct ∷ conjuncts) before =
        (sym (judged d ends conjunct) ∙ before.0, all_after d ends conjuncts before.1)

    pub all_before : (d : Configuration) → order P (events_of cut E) ≡ Ok d → (conjuncts : List Conjunct) → After d conjuncts
        → Before conjuncts
    all_before d ends [] after = tt
    all_before d ends (conjunct ∷ conjuncts) after =
        (judged d ends conjunct ∙ after.0, all_before d ends conjuncts after.1)

  pub met : (conjuncts : List Conjunct) (cut : List ℕ) → Satisfies P H conjuncts cut → IsMet P E conjuncts cut
  met conjuncts cut s = record {
    closed = closed P E cut s.consistent;
    end = part_end cut s.consistent;
    replayed = part_legal cut s.consistent;
    all = all_after cut s.consistent (part_end cut s.consistent) (part_legal cut s.consistent) conjuncts s.all;
  }

  pub satisfied : (conjuncts : List Conjunct) (cut : List ℕ) → IsMet P E conjuncts cut → Satisfies P H conjuncts cut
  satisfied conjuncts cut m =
      let is = consistent P E all cut m.closed in
      record { consistent = is; all = all_before cut is m.end m.replayed conjuncts m.all }

  -- the least such set, and none
  pub least_is_met : (conjuncts : List Conjunct) (cut : List ℕ) → IsLeast P H conjuncts cut → IsLeastMet P E conjuncts cut
  least_is_met conjuncts cut least = record {
    met = met conjuncts cut least.satisfies;
    least = λ other is_met. least.least other (satisfied conjuncts other is_met);
  }

  pub least_is_least : (conjuncts : List Conjunct) (cut : List ℕ) → IsLeastMet P E conjuncts cut → IsLeast P H conjuncts cut
  least_is_least conjuncts cut least = record {
    satisfies = satisfied conjuncts cut least.met;
    least = λ other satisfies. least.least other (met conjuncts other satisfies);
  }

  abbrev pub NoneIsMet : List Conjunct → Type 0
  NoneIsMet conjuncts = (cut : List ℕ) → ¬ IsMet P E conjuncts cut

  pub none_is_met : (conjuncts : List Conjunct) → NoCut P H conjuncts → NoneIsMet conjuncts
  none_is_met conjuncts none cut is_met = none cut (satisfied conjuncts cut is_met)

  pub none_satisfies : (conjuncts : List Conjunct) → NoneIsMet conjuncts → NoCut P H conjuncts
  none_satisfies conjuncts none cut satisfies = none cut (met conjuncts cut satisfies)

  -- a closed set replays alone, and with the local states of its last events
  pub closed_replays : (cut : List ℕ) → IsClosed P E cut → IsLegalOrder P (events_of cut E)
  closed_replays cut is =
      let consistent_cut = consistent P E all cut is in
      (part_end cut consistent_cut, part_legal cut consistent_cut)

  pub closed_states : (cut : List ℕ) → IsClosed P E cut → (d : Configuration) → order P (events_of cut E) ≡ Ok d → (q : ℕ)
      → local_state P H q (get_or cut q 0) ≡ state_in d q
  closed_states cut is d ends q = part_state cut (consistent P E all cut is) d ends q
