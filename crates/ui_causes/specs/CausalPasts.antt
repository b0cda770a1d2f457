-- The events before an event and after it, by happened-before (Lamport 1978). Events have numbers from 1 here, and from 0 in the definitions of
-- the reference.
use Rattle.std.specs.Prelude.{◌≡◌, ◌↔◌, ℕ, ◌-◌, ◌<◌, ◌≤◌, List, length, slice_index}
use Rattle.dbg_base.specs.Trees.{Program}
use Rattle.dbg_base.specs.Orders.{Event, choices_of}
use Rattle.dbg_base.specs.SystemStates.{history_of, place_at}
use Rattle.dbg_base.specs.Reference.{IsInPast}
use Rattle.causal_world.specs.Scenes.{Scene, IsWorldOf}
use Rattle.ui_causes.specs.declared.past.EventPlace.{EventPlace}
use Rattle.ui_causes.specs.declared.messages.Hop.{Hop}

-- the world has this event
pub record IsEvent (w : Scene) (event : EventPlace) : Type 0 where
  pub here : event.pid.0 < length w.state.places
  pub first : 1 ≤ event.number
  pub within : event.number ≤ place_at w.state event.pid.0

-- E are the events of a world of P, in some order
pub record AreEvents (P : Program) (E : List Event) (w : Scene) : Type 0 where
  pub of : IsWorldOf P w
  pub all : choices_of (length P) E ≡ history_of w.state

-- the first event is the second, or happened before it
abbrev pub IsBefore : Program → List Event → EventPlace → EventPlace → Type 0
IsBefore P E earlier event =
    (1 ≤ earlier.number) × IsInPast P E earlier.pid.0 (earlier.number - 1) event.pid.0 (event.number - 1)

-- so many events of process q are the event or happened before it, and no others of q
abbrev pub CountsPast : Scene → EventPlace → ℕ → ℕ → Type 0
CountsPast w event q count =
    (P : Program) (E : List Event) → AreEvents P E w → IsEvent w event → (m : ℕ)
    → (m < count) ↔ IsInPast P E q m event.pid.0 (event.number - 1)

-- the same for each process
abbrev pub IsPast : Scene → EventPlace → List ℕ → Type 0
IsPast w event cut = (q : ℕ) → CountsPast w event q (slice_index cut q)

-- Of the events of a process, those from this number on are the event or happened after it, and no others.
abbrev pub IsFirstAfter : Scene → EventPlace → ℕ → ℕ → Type 0
IsFirstAfter w event q first =
    (P : Program) (E : List Event) → AreEvents P E w → IsEvent w event → (later : EventPlace) → later.pid.0 ≡ q → IsEvent w later
    → (first ≤ later.number) ↔ IsBefore P E event later

-- in each order of the events, the first is the second, or happened before it
abbrev pub HappenedBefore : Scene → EventPlace → EventPlace → Type 0
HappenedBefore w earlier event = (P : Program) (E : List Event) → AreEvents P E w → IsEvent w event → IsBefore P E earlier event

-- the message was sent and received before the event, or by it
abbrev pub IsOnTheWay : Scene → EventPlace → Hop → Type 0
IsOnTheWay w event hop = HappenedBefore w hop.sender event × HappenedBefore w hop.receiver event
