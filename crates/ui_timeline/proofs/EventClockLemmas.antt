-- The events of a world are listed, each with its number and its clock.
use Rattle.std.proofs.Common.{◌≡◌, ◌<◌, ◌≤◌, ◌+◌, ℕ, List, [], ◌∷◌, ◌++◌, length, get_or, set, replicate, Option, Some, None, refl, sym, ap, ◌∙◌, subst, arith}
use Rattle.std.specs.Prelude.{MatchOption}
use Rattle.std.specs.List.{All}
use Rattle.std.proofs.lemmas.List.{length-replicate, length-set}
use Rattle.std.proofs.lemmas.List.Elements.{All-nil, All-push}
use Rattle.dbg_base.specs.declared.limits.TheConstants.{EVENTS}
use Rattle.dbg_base.specs.Trees.{Program}
use Rattle.dbg_base.specs.Clocks.{IsClock}
use Rattle.dbg_base.specs.SystemStates.{history_of, place_at}
use Rattle.causal_world.specs.Scenes.{Scene, IsWorldOf}
use Rattle.causal_world.specs.Worlds.{IsSomeWorld}
use Rattle.causal_world.proofs.RollbackLemmas.{choices_counted}
use Rattle.ui_timeline.specs.declared.timed.TimedEvent.{TimedEvent}
use Rattle.ui_timeline.specs.EventOrders.{IsEventOrder}
use Rattle.ui_timeline.specs.TimedEvents.{AreTimedEvents}
use Rattle.ui_timeline.proofs.EventNumberLemmas.{AreReported, reported_none, reported_more, reported_all, there_in, some_left}

-- the processes are in an order of the events of the world
abbrev pub AreOrdered : Scene → List ℕ → Type 0
AreOrdered w order = (P : Program) → IsWorldOf P w → IsEventOrder P (history_of w.state) order

abbrev HasClock : Program → Scene → TimedEvent → Type 0
HasClock P w event = IsClock P (history_of w.state) event.pid.0 event.number event.clock

-- So many events are listed, each with its number and its clock, and so many of each process.
pub record AreTimed (w : Scene) (order counts : List ℕ) (n : ℕ) (events : List TimedEvent) : Type 0 where
  pub size : length counts ≡ length w.state.places
  pub reported : AreReported order counts n events
  pub clocks : (P : Program) → IsWorldOf P w → All (HasClock P w) events

pub timed_none : (w : Scene) (order counts : List ℕ) (n : ℕ) (events : List TimedEvent) → n ≡ length w.state.places
    → counts ≡ replicate n 0 → events ≡ [] → AreTimed w order counts 0 events
timed_none w order counts n events size zeros none = record {
  size = ap (λ (l : List ℕ). length l) zeros ∙ length-replicate n 0 ∙ size;
  reported = subst (λ (l : List ℕ). AreReported order l 0 events) (sym zeros) (subst (AreReported order (replicate n 0) 0) (sym none) (reported_none order n));
  clocks = λ P of. subst (All (HasClock P w)) (sym none) (All-nil (HasClock P w));
}

-- The process exists, and has at least one more event than are listed.
pub record IsNext (w : Scene) (counts : List ℕ) (p : ℕ) : Type 0 where
  pub here : p < length w.state.places
  pub left : get_or counts p 0 < place_at w.state p
  pub few : place_at w.state p ≤ EVENTS

pub next_event : (w : Scene) (order counts : List ℕ) (n : ℕ) (events : List TimedEvent) → IsSomeWorld w → AreOrdered w order
    → AreTimed w order counts n events → n < length order → IsNext w counts (get_or order n 0)
next_event w order counts n events some ordered timed within =
    let P = some.0 in
    let of = some.1 in
    let H = history_of w.state in
    let p = get_or order n 0 in
    let there = there_in P H order n (ordered P of) within in
    let here : p < length w.state.places = omega (arith, there, of.state.places) in
    let counted : p < length counts = omega (arith, here, timed.size) in
    let left = some_left P H order counts n p events (ordered P of) timed.reported within refl counted there in
    let all = choices_counted P w p of in
    record { here = here; left = omega (arith, left, all); few = omega (arith, of.state.within p, of.state.few p) }

-- the result of `clock_behind` for an event
abbrev pub TellsClock : Scene → ℕ → ℕ → Option (List ℕ) → Type 0
TellsClock w p n clock = MatchOption clock (p < length w.state.places → place_at w.state p < n)
    (λ cut. (P : Program) → IsWorldOf P w → IsClock P (history_of w.state) p n cut)

-- the next event has a clock
pub has_clock : (w : Scene) (counts : List ℕ) (p n : ℕ) (clock : Option (List ℕ)) → IsNext w counts p → n ≡ get_or counts p 0 + 1
    → TellsClock w p n clock → clock ≡ None → ⊥
has_clock w counts p n None next number tells none = let past = tells next.here in omega (arith, past, next.left, number)
has_clock w counts p n (Some cut) next number tells none = cc

its_clock : (w : Scene) (p n : ℕ) (clock : Option (List ℕ)) (cut : List ℕ) → TellsClock w p n clock → clock ≡ Some cut
    → (P : Program) → IsWorldOf P w → IsClock P (history_of w.state) p n cut
its_clock w p n None cut tells is P of = cc
its_clock w p n (Some other) cut tells is P of =
    let same : other ≡ cut = cc in subst (IsClock P (history_of w.state) p n) same (tells P of)

-- the next event is listed
pub timed_more : (w : Scene) (order counts : List ℕ) (n : ℕ) (events : List TimedEvent) (event : TimedEvent)
    (clock : Option (List ℕ)) (others : List ℕ) (more : List TimedEvent) → AreTimed w order counts n events → n < length order
    → get_or order n 0 ≡ event.pid.0 → event.number ≡ get_or counts event.pid.0 0 + 1 → IsNext w counts event.pid.0
    → TellsClock w event.pid.0 event.number clock → clock ≡ Some event.clock → others ≡ set counts event.pid.0 event.number
    → more ≡ events ++ event ∷ [] → AreTimed w order others (n + 1) more
timed_more w order counts n events event clock others more timed within is number next tells some set_to pushed =
    let here : event.pid.0 < length counts = omega (arith, next.here, timed.size) in record {
      size = ap (λ (l : List ℕ). length l) set_to ∙ length-set counts event.pid.0 event.number ∙ timed.size;
      reported = subst (λ (l : List ℕ). AreReported order l (n + 1) more) (sym set_to)
          (subst (AreReported order (set counts event.pid.0 event.number) (n + 1)) (sym pushed)
          (reported_more order counts n event events timed.reported within is here number));
      clocks = λ P of. subst (All (HasClock P w)) (sym pushed)
          (All-push (HasClock P w) events event (timed.clocks P of)
          (its_clock w event.pid.0 event.number clock event.clock tells some P of));
    }

-- all events are listed
pub timed_all : (w : Scene) (order counts : List ℕ) (n : ℕ) (events all : List TimedEvent) → AreTimed w order counts n events
    → length order ≤ n → AreOrdered w order → all ≡ events → (P : Program) → IsWorldOf P w
    → AreTimedEvents P (history_of w.state) all
timed_all w order counts n events all timed end ordered same P of =
    subst (AreTimedEvents P (history_of w.state)) (sym same) (record {
      order = subst (IsEventOrder P (history_of w.state)) (reported_all order counts n events timed.reported end) (ordered P of);
      numbers = timed.reported.numbers;
      clocks = timed.clocks P of;
    })
