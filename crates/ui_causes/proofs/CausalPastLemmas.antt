-- The clock of an event counts what happened before it.
use Rattle.std.proofs.Common.{◌≡◌, ◌↔◌, ℕ, suc, ◌+◌, ◌-◌, ◌<◌, ◌≤◌, List, [], length, get_or, Option, Some, None, sym, ap, ◌∙◌, subst, arith, inl, inr, ◌⊎◌}
use Rattle.std.proofs.lemmas.Bool.{cases_eq, cases_lt}
use Rattle.dbg_base.specs.Trees.{Program}
use Rattle.dbg_base.specs.Histories.{History, IsPossible}
use Rattle.dbg_base.specs.Orders.{Event, choices_of}
use Rattle.dbg_base.specs.SystemStates.{history_of, place_at}
use Rattle.dbg_base.specs.Clocks.{IsClock}
use Rattle.dbg_base.specs.Reference.{line, IsInPast, HappenedBefore, Earlier, Through}
use Rattle.dbg_laws.proofs.CausalPastLemmas.{clock_knows, clock_has, clock_there}
use Rattle.causal_world.specs.Scenes.{Scene, IsWorldOf}
use Rattle.causal_world.specs.Worlds.{IsSomeWorld}
use Rattle.causal_world.proofs.WorldCallLemmas.{kinds_there}
use Rattle.causal_world.proofs.RollbackLemmas.{choices_counted}
use Rattle.ui_causes.specs.declared.past.EventPlace.{EventPlace}
use Rattle.ui_causes.specs.CausalPasts.{IsEvent, AreEvents, IsBefore, CountsPast, IsPast, IsFirstAfter}

-- a process for each line
pub sizes : (w : Scene) → IsSomeWorld w → length w.kinds ≡ length w.state.places
sizes w some = kinds_there some.0 w some.1 ∙ sym some.1.state.places

-- what is in the past of an event is in the past of each event after it
past_then : (P : Program) (E : List Event) (q m i n j o : ℕ) → HappenedBefore P E i n j o → IsInPast P E q m i n
    → HappenedBefore P E q m j o
past_then P E q m i n j o next (inl before) = Through before next
past_then P E q m i n j o next (inr same) =
    subst (λ (x : ℕ). HappenedBefore P E x m j o) (sym same.0) (subst (λ (x : ℕ). HappenedBefore P E i x j o) (sym same.1) next)

-- the same event
moved_event : (w : Scene) (one other : EventPlace) → one.pid.0 ≡ other.pid.0 → one.number ≡ other.number → IsEvent w one → IsEvent w other
moved_event w one other pids numbers is = record {
  here = subst (λ (p : ℕ). p < length w.state.places) pids is.here;
  first = subst (λ (n : ℕ). 1 ≤ n) numbers is.first;
  within = subst (λ (p : ℕ). other.number ≤ place_at w.state p) pids (subst (λ (n : ℕ). n ≤ place_at w.state one.pid.0) numbers is.within);
}

moved_before : (P : Program) (E : List Event) (event one other : EventPlace) → one.pid.0 ≡ other.pid.0 → one.number ≡ other.number
    → IsBefore P E event one → IsBefore P E event other
moved_before P E event one other pids numbers before = (
  before.0,
  subst (λ (n : ℕ). IsInPast P E event.pid.0 (event.number - 1) other.pid.0 (n - 1)) numbers
      (subst (λ (p : ℕ). IsInPast P E event.pid.0 (event.number - 1) p (one.number - 1)) pids before.1),
)

module _ (P : Program) (E : List Event) (w : Scene) (are : AreEvents P E w) where
  -- all events are possible
  possible : IsPossible P (choices_of (length P) E)
  possible = subst (IsPossible P) (sym are.all) are.of.possible

  -- an event is in the line of its process
  in_line : (event : EventPlace) → IsEvent w event → event.number - 1 < length (line P E event.pid.0)
  in_line event is =
      let size : length (line P E event.pid.0) ≡ place_at w.state event.pid.0 =
      ap (λ (H : History). length (get_or H event.pid.0 [])) are.all ∙ choices_counted P w event.pid.0 are.of in
      omega (arith, size, is.first, is.within)

  -- the clock of an event counts its past
  pub clock_counts : (event : EventPlace) → IsEvent w event → (cut : List ℕ) → IsClock P (history_of w.state) event.pid.0 event.number cut
      → (q m : ℕ) → (m < get_or cut q 0) ↔ IsInPast P E q m event.pid.0 (event.number - 1)
  clock_counts event is cut clock q m =
      let n = event.number - 1 in
      let one : event.number ≡ suc n = omega (arith, is.first) in
      let whole : IsClock P (choices_of (length P) E) event.pid.0 event.number cut =
      subst (λ (H : History). IsClock P H event.pid.0 event.number cut) (sym are.all) clock in
      let here : IsClock P (choices_of (length P) E) event.pid.0 (suc n) cut =
      subst (λ (k : ℕ). IsClock P (choices_of (length P) E) event.pid.0 k cut) one whole in
      (clock_knows P E possible event.pid.0 n cut (in_line event is) here q m, clock_has P E event.pid.0 n cut here q m)

  -- there is a clock
  some_clock : (event : EventPlace) → IsEvent w event → (cut : List ℕ) × IsClock P (history_of w.state) event.pid.0 event.number cut
  some_clock event is =
      let within : event.number ≤ length (line P E event.pid.0) = (let a = in_line event is in omega (arith, a)) in
      let clock = clock_there P E possible event.pid.0 event.number within in
      (clock.0, subst (λ (H : History). IsClock P H event.pid.0 event.number clock.0) are.all clock.1)

  -- an event that is before another one is before the later events of that one's process
  pub still_before : (event earlier later : EventPlace) → IsEvent w later → earlier.pid.0 ≡ later.pid.0 → 1 ≤ earlier.number
      → earlier.number ≤ later.number → IsBefore P E event earlier → IsBefore P E event later
  still_before event earlier later is same first le before =
      elim (cases_eq earlier.number later.number) [
        | inl e ↦ (
          before.0,
          subst (λ (n : ℕ). IsInPast P E event.pid.0 (event.number - 1) later.pid.0 (n - 1)) e
              (subst (λ (q : ℕ). IsInPast P E event.pid.0 (event.number - 1) q (earlier.number - 1)) same before.1),
        )
        | inr ne ↦ (
          before.0,
          inl (past_then P E event.pid.0 (event.number - 1) earlier.pid.0 (earlier.number - 1) later.pid.0 (later.number - 1)
              (subst (λ (q : ℕ). HappenedBefore P E q (earlier.number - 1) later.pid.0 (later.number - 1)) (sym same)
              (Earlier (omega (arith, first, le, ne)) (in_line later is))) before.1),
        )
      ]

-- the clock that is counted
pub part_counts : (w : Scene) (event : EventPlace) (q count : ℕ)
    → ((P : Program) (cut : List ℕ) → IsWorldOf P w → IsClock P (history_of w.state) event.pid.0 event.number cut → count ≡ get_or cut q 0)
    → CountsPast w event q count
part_counts w event q count part P E are is m =
    let clock = some_clock P E w are event is in
    let same = part P clock.0 are.of clock.1 in
    let counts = clock_counts P E w are event is clock.0 clock.1 q m in
    (λ less. counts.0 (omega (arith, less, same)), λ past. (let a = counts.1 past in omega (arith, a, same)))

-- nothing is said of an event that is not there
pub no_event : (w : Scene) (event : EventPlace) (q count : ℕ) → (IsEvent w event → ⊥) → CountsPast w event q count
no_event w event q count none P E are is m = absurd (none is)

pub clock_is_past : (w : Scene) (event : EventPlace) (cut : List ℕ)
    → ((P : Program) → IsWorldOf P w → IsClock P (history_of w.state) event.pid.0 event.number cut) → IsPast w event cut
clock_is_past w event cut clock q P E are is m = clock_counts P E w are event is cut (clock P are.of) q m

-- an event is before another one if it is among those that are counted
pub counted_before : (w : Scene) (earlier event : EventPlace) (count : ℕ) → CountsPast w event earlier.pid.0 count
    → (P : Program) (E : List Event) → AreEvents P E w → IsEvent w event
    → ((1 ≤ earlier.number) × (earlier.number ≤ count)) ↔ IsBefore P E earlier event
counted_before w earlier event count counts P E are is =
    let each = counts P E are is (earlier.number - 1) in (
      λ both. (both.0, each.0 (let a = both.0 in let b = both.1 in omega (arith, a, b))),
      λ before. (before.0, let a = before.0 in let b = each.1 before.1 in omega (arith, a, b)),
    )

-- no event of process q with a lower number than this one is the event or happened after it
abbrev pub NoneBefore : Scene → EventPlace → ℕ → ℕ → Type 0
NoneBefore w event q number =
    (P : Program) (E : List Event) → AreEvents P E w → IsEvent w event → (later : EventPlace) → later.pid.0 ≡ q → IsEvent w later
    → later.number < number → IsBefore P E event later → ⊥

module _ (w : Scene) (event : EventPlace) (q number : ℕ) where
  pub none_first : number ≤ 1 → NoneBefore w event q number
  none_first le P E are is later same there lt before = let first = there.first in absurd (omega (arith, first, lt, le))

  -- one more event that is not after it
  pub none_more : (here : EventPlace) → here.pid.0 ≡ q → here.number ≡ number → NoneBefore w event q number
      → ((P : Program) (E : List Event) → AreEvents P E w → IsEvent w here → IsBefore P E event here → ⊥)
      → NoneBefore w event q (number + 1)
  none_more here own last none not P E are is later same there lt before = elim (cases_eq later.number number) [
    | inl e ↦
        let pids : later.pid.0 ≡ here.pid.0 = same ∙ sym own in
        let numbers : later.number ≡ here.number = e ∙ sym last in
        absurd (not P E are (moved_event w later here pids numbers there) (moved_before P E event later here pids numbers before))
    | inr ne ↦ none P E are is later same there (omega (arith, lt, ne)) before
  ]

  -- the first event that is after it
  pub first_found : (here : EventPlace) → here.pid.0 ≡ q → here.number ≡ number → 1 ≤ number → NoneBefore w event q number
      → ((P : Program) (E : List Event) → AreEvents P E w → IsEvent w here → IsBefore P E event here)
      → IsFirstAfter w event q number
  first_found here own last some none is_after P E are is later same there = (
    λ le.
        let within = there.within in
        let at : here.number ≤ place_at w.state here.pid.0 =
        subst (λ (p : ℕ). here.number ≤ place_at w.state p) (same ∙ sym own) (omega (arith, within, le, last)) in
        let one : IsEvent w here = record {
          here = subst (λ (p : ℕ). p < length w.state.places) (same ∙ sym own) there.here;
          first = omega (arith, some, last);
          within = at;
        } in
        still_before P E w are event here later there (own ∙ sym same) (omega (arith, some, last)) (omega (arith, le, last)) (is_after P E are one),
    λ before. elim (cases_lt later.number number) [
      | inl lt ↦ absurd (none P E are is later same there lt before)
      | inr le ↦ le
    ],
  )

  -- no event is after it
  pub first_missing : place_at w.state q < number ⊎ (20000 < number) → NoneBefore w event q (place_at w.state q + 1) → IsFirstAfter w event q number
  first_missing beyond none P E are is later same there =
      let within : later.number ≤ place_at w.state q = subst (λ (p : ℕ). later.number ≤ place_at w.state p) same there.within in
      let few : place_at w.state q ≤ 20000 = (let a = are.of.state.within q in let b = are.of.state.few q in omega (arith, a, b)) in (
        λ le. elim beyond [
          | inl lt ↦ absurd (omega (arith, within, le, lt))
          | inr lt ↦ absurd (omega (arith, within, few, le, lt))
        ],
        λ before. absurd (none P E are is later same there (omega (arith, within)) before),
      )
