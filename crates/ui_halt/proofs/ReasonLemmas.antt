-- If no event of another process in a least cut depends on an event of the cut, then a conjunct is false before that event: the cut with
-- fewer events of its process is consistent, too.
use Rattle.std.proofs.Common.{◌≡◌, ◌≢◌, ℕ, ◌+◌, ◌-◌, ◌<◌, ◌≤◌, ◌==◌, ◌&&◌, not, Bool, true, false, List, [], ◌∷◌, length, get_or, set, refl, sym, ap, ◌∙◌, subst, arith}
use Rattle.std.proofs.Common.{inl, inr}
use Rattle.std.specs.List.{AllByRecursion}
use Rattle.std.proofs.lemmas.Bool.{cases_eq, cases_lt, eq-eqb}
use Rattle.std.proofs.lemmas.List.{get_or_past, get_or-set_same, get_or-set_other, length-set}
use Rattle.dbg_base.specs.Trees.{Program}
use Rattle.dbg_base.specs.Histories.{History}
use Rattle.dbg_base.specs.Orders.{Event}
use Rattle.dbg_base.specs.Counts.{sends_to, receives_from, sent, got}
use Rattle.dbg_base.specs.Cuts.{IsConsistent}
use Rattle.dbg_base.specs.Eliminations.{is_ruled_out}
use Rattle.dbg_base.specs.Predicates.{Conjunct, is_true}
use Rattle.dbg_base.specs.SystemStates.{place_at, history_of}
use Rattle.dbg_base.proofs.CountLemmas.{count_grows}
use Rattle.causal_world.specs.Scenes.{Scene, IsWorldOf}
use Rattle.causal_world.specs.Worlds.{IsSomeWorld}
use Rattle.least_cut.proofs.WorldHistoryLemmas.{processes_counted, choices_placed, has_clocks, neither}
use Rattle.ui_causes.specs.declared.past.EventPlace.{EventPlace}
use Rattle.ui_causes.specs.CausalPasts.{IsEvent, AreEvents, IsFirstAfter}
use Rattle.ui_causes.proofs.CausalPastLemmas.{clock_counts}
use Rattle.ui_halt.specs.Reasons.{Needs, IsReason, HasNoReason}

-- the last event of a process in a cut
abbrev pub last_in : List ℕ → ℕ → EventPlace
last_in cut q = record { pid = record { 0 = q }; number = get_or cut q 0 }

-- none of the last events of the processes up to this one needs the event
abbrev pub NoneNeeds : Scene → EventPlace → List ℕ → ℕ → Type 0
NoneNeeds w event cut count =
    (P : Program) (E : List Event) → AreEvents P E w → (q : ℕ) → q < count → Needs P E w event (last_in cut q) → ⊥

module _ (w : Scene) (event : EventPlace) (cut : List ℕ) where
  pub none_first : NoneNeeds w event cut 0
  none_first P E are q less needs = absurd (omega (arith, less))

  pub none_more : (count number : ℕ) → number ≡ get_or cut count 0
      → ((P : Program) (E : List Event) → AreEvents P E w → Needs P E w event (record { pid = record { 0 = count }; number = number }) → ⊥)
      → NoneNeeds w event cut count → NoneNeeds w event cut (count + 1)
  none_more count number same not none P E are q less needs = elim (cases_eq q count) [
    | inl e ↦ not P E are
        (subst (λ (n : ℕ). Needs P E w event (record { pid = record { 0 = count }; number = n })) (sym same)
        (subst (λ (k : ℕ). Needs P E w event (last_in cut k)) e needs))
    | inr apart ↦ none P E are q (omega (arith, less, apart)) needs
  ]

-- the events of a world
pub some_events : (P : Program) (w : Scene) (of : IsWorldOf P w) → AreEvents P of.fired w
some_events P w of = record { of = of; all = of.history }

-- the last event of a process that depends on the event
pub is_reason : (w : Scene) (cut : List ℕ) (event last reason : EventPlace) → IsSomeWorld w → IsEvent w event
    → ((P : Program) (E : List Event) → AreEvents P E w → Needs P E w event last)
    → last.number ≡ get_or cut last.pid.0 0 → reason.pid.0 ≡ last.pid.0 → 1 ≤ reason.number
    → IsFirstAfter w event last.pid.0 reason.number → IsReason w cut event reason
is_reason w cut event last reason some is needs number pid one first =
    let P = some.0 in
    let are = some_events P w some.1 in
    let need = needs P some.1.fired are in
    let less : reason.number ≤ last.number = (first P some.1.fired are is last refl need.is).1 need.before in
    let within = need.is.within in
    let there : IsEvent w reason = record {
      here = subst (λ (p : ℕ). p < length w.state.places) (sym pid) need.is.here;
      first = one;
      within = subst (λ (p : ℕ). reason.number ≤ place_at w.state p) (sym pid) (omega (arith, less, within));
    } in
    record {
      other = λ e. need.other (sym pid ∙ e);
      inside = subst (λ (p : ℕ). reason.number ≤ get_or cut p 0) (sym pid) (omega (arith, less, number));
      is = there;
      depends = λ Q F those here. (first Q F those is reason pid there).0 (omega arith);
      first = subst (λ (p : ℕ). IsFirstAfter w event p reason.number) (sym pid) first;
    }

-- a truth that is not ruled out
not_out : (a b : Bool) → a ≡ true → (a && not b) ≡ false → b ≡ true
not_out true true is none = refl
not_out true false is none = cc
not_out false b is none = cc

-- the cut with fewer events of process p
module _ (P : Program) (H : History) (cut : List ℕ) (p n : ℕ) (consistent : IsConsistent P H cut) (here : p < length cut)
    (less : n ≤ get_or cut p 0) where
  abbrev fewer : List ℕ
  fewer = set cut p n

  at_p : get_or fewer p 0 ≡ n
  at_p = get_or-set_same cut p n 0 here

  at_other : (q : ℕ) → q ≢ p → get_or fewer q 0 ≡ get_or cut q 0
  at_other q apart = get_or-set_other cut p q n 0 apart

  at_most : (q : ℕ) → get_or fewer q 0 ≤ get_or cut q 0
  at_most q = elim (cases_eq q p) [
    | inl e ↦ subst (λ (k : ℕ). get_or fewer k 0 ≤ get_or cut k 0) (sym e) (omega (arith, at_p, less))
    | inr apart ↦ (let same = at_other q apart in omega (arith, same))
  ]

  got_less : (i j m k : ℕ) → m ≤ k → got P H j i m ≤ got P H j i k
  got_less i j m k le = count_grows (receives_from P j i) (get_or H j []) m k le

  sent_less : (i j m k : ℕ) → m ≤ k → sent P H i j m ≤ sent P H i j k
  sent_less i j m k le = count_grows (sends_to P i j) (get_or H i []) m k le

  module _ (known : (j : ℕ) → j ≢ p → got P H j p (get_or cut j 0) ≤ sent P H p j n) where
    causes : (i j : ℕ) → i ≢ j → got P H j i (get_or fewer j 0) ≤ sent P H i j (get_or fewer i 0)
    causes i j apart =
        let fewer_got : got P H j i (get_or fewer j 0) ≤ got P H j i (get_or cut j 0) = got_less i j _ _ (at_most j) in
        elim (cases_eq i p) [
          | inl e ↦
              let of_p : j ≢ p = λ same. apart (e ∙ sym same) in
              let most = subst (λ (k : ℕ). got P H j k (get_or cut j 0) ≤ sent P H k j n) (sym e) (known j of_p) in
              let own : sent P H i j (get_or fewer i 0) ≡ sent P H i j n =
              ap (λ (m : ℕ). sent P H i j m) (ap (λ (k : ℕ). get_or fewer k 0) e ∙ at_p) in
              omega (arith, fewer_got, most, own)
          | inr other ↦
              let own : sent P H i j (get_or fewer i 0) ≡ sent P H i j (get_or cut i 0) =
              ap (λ (m : ℕ). sent P H i j m) (at_other i other) in
              let most = consistent.causes i j apart in
              omega (arith, fewer_got, most, own)
        ]

    pub fewer_consistent : IsConsistent P H fewer
    fewer_consistent = record {
      sizes = length-set cut p n ∙ consistent.sizes;
      within = λ q. (let a = at_most q in let b = consistent.within q in omega (arith, a, b));
      causes = causes;
    }

  -- the conjuncts that are not ruled out are true
  pub fewer_true : (conjuncts : List Conjunct) → AllByRecursion (λ c. is_true P H c (get_or cut c.process 0) ≡ true) conjuncts
      → is_ruled_out P H conjuncts p n ≡ false → AllByRecursion (λ c. is_true P H c (get_or fewer c.process 0) ≡ true) conjuncts
  fewer_true [] all none = all
  fewer_true (c ∷ conjuncts) all none =
      let parts = neither ((c.process == p) && not (is_true P H c n)) (is_ruled_out P H conjuncts p n) none in
      let first : is_true P H c (get_or fewer c.process 0) ≡ true = elim (cases_eq c.process p) [
        | inl e ↦
            let truth : is_true P H c n ≡ true = not_out (c.process == p) (is_true P H c n) (eq-eqb c.process p e) parts.0 in
            ap (λ (m : ℕ). is_true P H c m) (ap (λ (k : ℕ). get_or fewer k 0) e ∙ at_p) ∙ truth
        | inr apart ↦ ap (λ (m : ℕ). is_true P H c m) (at_other c.process apart) ∙ all.0
      ] in
      (first, fewer_true conjuncts all.1 parts.1)

-- no event of another process in the cut needs the event
module _ (w : Scene) (cut : List ℕ) (event : EventPlace) (processes : ℕ) (enough : length w.state.places ≤ processes)
    (none : NoneNeeds w event cut processes) (P : Program) (of : IsWorldOf P w) (consistent : IsConsistent P (history_of w.state) cut)
    (first : 1 ≤ event.number) where
  abbrev H : History
  H = history_of w.state

  abbrev p : ℕ
  p = event.pid.0

  abbrev n : ℕ
  n = event.number - 1

  -- each process has received only what was sent before the event
  known : (j : ℕ) → j ≢ p → got P H j p (get_or cut j 0) ≤ sent P H p j n
  known j apart = elim (cases_lt 0 (get_or cut j 0)) [
    | inr zero ↦
        let nothing : get_or cut j 0 ≡ 0 = omega (arith, zero) in
        let same : got P H j p (get_or cut j 0) ≡ 0 = ap (λ (m : ℕ). got P H j p m) nothing in
        omega (arith, same)
    | inl some ↦
        let here : j < length cut = elim (cases_lt j (length cut)) [
          | inl lt ↦ lt
          | inr le ↦ (let gone = get_or_past cut j 0 le in absurd (omega (arith, gone, some)))
        ] in
        let size = processes_counted P w of in
        let sizes = consistent.sizes in
        let within = consistent.within j in
        let placed = choices_placed P w of j in
        let last = last_in cut j in
        let there : IsEvent w last = record {
          here = omega (arith, here, size, sizes);
          first = omega (arith, some);
          within = omega (arith, within, placed);
        } in
        let clock = has_clocks P w of j (get_or cut j 0) (omega (arith, here, sizes)) (omega (arith, within)) in
        let E = of.fired in
        let are = some_events P w of in
        let counts = clock_counts P E w are last there clock.0 clock.1 p n in
        let few : get_or clock.0 p 0 ≤ n = elim (cases_lt n (get_or clock.0 p 0)) [
          | inl more ↦
              absurd
              (none P E are j (omega (arith, here, size, sizes, enough)) (record {
                other = apart;
                is = there;
                before = (first, counts.0 more);
              }))
          | inr le ↦ le
        ] in
        let reaches = clock.1.reaches in
        let a : got P H j p (get_or cut j 0) ≤ got P H j p (get_or clock.0 j 0) =
        count_grows (receives_from P j p) (get_or H j []) (get_or cut j 0) (get_or clock.0 j 0) reaches in
        let b = clock.1.consistent.causes p j (λ e. apart (sym e)) in
        let c : sent P H p j (get_or clock.0 p 0) ≤ sent P H p j n =
        count_grows (sends_to P p j) (get_or H p []) (get_or clock.0 p 0) n few in
        omega (arith, a, b, c)
  ]

-- the process of an event of a cut is one of its processes
there_in : (cut : List ℕ) (event : EventPlace) → 1 ≤ event.number → event.number ≤ get_or cut event.pid.0 0 → event.pid.0 < length cut
there_in cut event first inside = elim (cases_lt event.pid.0 (length cut)) [
  | inl lt ↦ lt
  | inr le ↦ (let gone = get_or_past cut event.pid.0 0 le in absurd (omega (arith, gone, first, inside)))
]

-- a conjunct that is neither ruled out nor not
by_cases : (b : Bool) (R : Type 0) → (b ≡ false → R) → (b ≡ true → R) → R
by_cases false R out in_it = out refl
by_cases true R out in_it = in_it refl

-- then the cut is not the least, or a conjunct is false before the event
pub no_reason : (w : Scene) (cut : List ℕ) (event : EventPlace) (processes : ℕ) → length w.state.places ≤ processes
    → NoneNeeds w event cut processes → HasNoReason w cut event
no_reason w cut event processes enough none P conjuncts of least first inside =
    let H = history_of w.state in
    let p = event.pid.0 in
    let n = event.number - 1 in
    let consistent = least.satisfies.consistent in
    let here = there_in cut event first inside in
    let less : n ≤ get_or cut p 0 = omega (arith, inside) in
    by_cases (is_ruled_out P H conjuncts p n) (is_ruled_out P H conjuncts p n ≡ true)
    (λ out.
    let fewer = set cut p n in
    let below = least.least fewer (record {
      consistent = fewer_consistent P H cut p n consistent here less (known w cut event processes enough none P of consistent first);
      all = fewer_true P H cut p n consistent here less conjuncts least.satisfies.all out;
    }) p in
    let same = get_or-set_same cut p n 0 here in
    absurd (omega (arith, below, same, inside, first)))
    (λ out. out)

-- if there is no event, the cut does not have it
pub no_event : (w : Scene) (cut : List ℕ) (event : EventPlace) → (IsEvent w event → ⊥) → HasNoReason w cut event
no_event w cut event not P conjuncts of least first inside =
    let consistent = least.satisfies.consistent in
    let p = event.pid.0 in
    let here = there_in cut event first inside in
    let size = processes_counted P w of in
    let sizes = consistent.sizes in
    let within = consistent.within p in
    let placed = choices_placed P w of p in
    absurd (not (record {
      here = omega (arith, here, size, sizes);
      first = first;
      within = omega (arith, inside, within, placed);
    }))
