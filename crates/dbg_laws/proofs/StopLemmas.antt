-- The frontier of a breakpoint is its first stop.
use Rattle.std.proofs.Common.{◌≡◌, ⊎_elim, ℕ, ◌<◌, ◌≤◌, min, true, List, [], ◌∷◌, length, get_or, Ok, sym, ap, ◌∙◌}
use Rattle.std.proofs.Common.{arith}
use Rattle.std.specs.List.{AllByRecursion}
use Rattle.std.proofs.lemmas.Bool.{cases_lt}
use Rattle.dbg_base.specs.Trees.{Program}
use Rattle.dbg_base.specs.LocalStates.{LocalState, no_state}
use Rattle.dbg_base.specs.Configurations.{Configuration, start_of}
use Rattle.dbg_base.specs.Histories.{History, IsPossible, local_state}
use Rattle.dbg_base.specs.Orders.{Event, order, choices_of}
use Rattle.dbg_base.specs.Predicates.{Conjunct, is_true, holds}
use Rattle.dbg_base.specs.Frontiers.{choices_at, IsSettled, IsFrontier}
use Rattle.dbg_base.specs.Reference.{line, HappenedBefore, Earlier, ByMessage, Through}
use Rattle.dbg_base.specs.Shown.{state_after, IsStop}
use Rattle.dbg_laws.proofs.OrderSwapLemmas.{takes, length-choices_of}
use Rattle.dbg_laws.proofs.PlayLemmas.{possible, same_states}
use Rattle.dbg_laws.proofs.UndoLemmas.{within_by}
use Rattle.dbg_laws.proofs.ClosedSetLemmas.{closed}
use Rattle.dbg_laws.proofs.CausalPastLemmas.{clock_there, clock_knows_all}

-- what happened before something happened before an event of the list
pub is_event : (P : Program) (E : List Event) (i m j n : ℕ) → HappenedBefore P E i m j n → n < length (line P E j)
is_event P E i m j n (Earlier less there) = there
is_event P E i m j n (ByMessage x) = x.received
is_event P E i m j n (Through {j = k} {n = o} first second) = is_event P E k o j n second

module _ (P : Program) (E : List Event) (c : Configuration) (legal : order P E ≡ Ok c) where
  abbrev H : History
  H = choices_of (length P) E

  all : IsPossible P H
  all = (possible P H E c legal (takes P (start_of P) c E legal)).0

  state_is : (p n : ℕ) → local_state P H p n ≡ state_after P E p n
  state_is p n =
      ap (λ (s : List (List LocalState)). get_or (get_or s p []) n no_state)
      (sym (same_states P H E c legal (takes P (start_of P) c E legal) all))

  module _ (tuple : List ℕ) where
    -- a conjunct is judged in the same state
    abbrev Before : List Conjunct → Type 0
    Before conjuncts = AllByRecursion
        (λ conjunct. get_or tuple conjunct.process 0 ≤ choices_at H conjunct.process
        → is_true P H conjunct (get_or tuple conjunct.process 0) ≡ true) conjuncts

    abbrev After : List Conjunct → Type 0
    After conjuncts = AllByRecursion
        (λ conjunct. get_or tuple conjunct.process 0 ≤ length (line P E conjunct.process)
        → holds conjunct.expression (state_after P E conjunct.process (get_or tuple conjunct.process 0)) ≡ true) conjuncts

    all_after : (conjuncts : List Conjunct) → Before conjuncts → After conjuncts
    all_after [] before = tt
    all_after (conjunct ∷ conjuncts) before = (
      λ few. ap (λ (s : LocalState). holds conjunct.expression s) (sym (state_is conjunct.process (get_or tuple conjunct.process 0)))
          ∙ before.0 few,
      all_after conjuncts before.1,
    )

    all_before : (conjuncts : List Conjunct) → After conjuncts → Before conjuncts
    all_before [] after = tt
    all_before (conjunct ∷ conjuncts) after = (
      λ few. ap (λ (s : LocalState). holds conjunct.expression s) (state_is conjunct.process (get_or tuple conjunct.process 0))
          ∙ after.0 few,
      all_before conjuncts after.1,
    )

    module _ (conjuncts : List Conjunct) where
      stop : IsSettled P H conjuncts tuple → IsStop P E conjuncts tuple
      stop is = record {
        sizes = is.sizes ∙ length-choices_of (length P) E;
        within = is.within;
        closed = λ i m j n before inside.
            let there = is_event P E i m j n before in
            let here : j < length H = within_by H j (omega (arith, there)) in
            let clock = clock_there P E all j (min (get_or tuple j 0) (choices_at H j)) (omega arith) in
            let reaches = clock.1.reaches in
            let most = is.clocks j clock.0 here clock.1 i in
            let less = (closed P E clock.0 clock.1.consistent).closed i m j n before (omega (arith, reaches, there, inside)) in
            omega (arith, most, less);
        all = all_after conjuncts is.all;
      }

      settled : IsStop P E conjuncts tuple → IsSettled P H conjuncts tuple
      settled is = record {
        sizes = is.sizes ∙ sym (length-choices_of (length P) E);
        within = is.within;
        all = all_before conjuncts is.all;
        clocks = λ q cut here clock r.
            ⊎_elim
            (λ (less : get_or tuple r 0 < get_or cut r 0).
            let known = clock_knows_all P E all q (min (get_or tuple q 0) (choices_at H q)) cut (omega arith) clock r (get_or tuple r 0)
            less in
            let below = known.1 in
            absurd (⊎_elim
            (λ (before : HappenedBefore P E r (get_or tuple r 0) q known.0).
            let inside = is.closed r (get_or tuple r 0) q known.0 before (omega (arith, below)) in omega (arith, inside))
            (λ (same : (r ≡ q) × (get_or tuple r 0 ≡ known.0)).
            let e = ap (λ (x : ℕ). get_or tuple x 0) same.0 in
            let f = same.1 in omega (arith, e, f, below))
            known.2))
            (λ (most : get_or cut r 0 ≤ get_or tuple r 0). most)
            (cases_lt (get_or tuple r 0) (get_or cut r 0));
      }

  -- the least stop
  pub first_stop : (conjuncts : List Conjunct) (tuple : List ℕ) → IsFrontier P H conjuncts tuple
      → IsStop P E conjuncts tuple × ((other : List ℕ) → IsStop P E conjuncts other → (p : ℕ) → get_or tuple p 0 ≤ get_or other p 0)
  first_stop conjuncts tuple is =
      (stop tuple conjuncts is.settled, λ other other_is. is.least other (settled other conjuncts other_is))
