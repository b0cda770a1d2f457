-- The events of a history, each with its number and its clock.
use Rattle.std.specs.Prelude.{◌≡◌, ℕ, ◌+◌, ◌==◌, List, ◌∷◌, ◌++◌, map, count_by}
use Rattle.std.specs.List.{All}
use Rattle.dbg_base.specs.Trees.{Program}
use Rattle.dbg_base.specs.Histories.{History}
use Rattle.dbg_base.specs.Clocks.{IsClock}
use Rattle.ui_timeline.specs.declared.timed.TimedEvent.{TimedEvent}
use Rattle.ui_timeline.specs.EventOrders.{IsEventOrder}

-- how many of these events are of process p
abbrev pub events_of : ℕ → List TimedEvent → ℕ
events_of p events = count_by (λ event. event.pid.0 == p) events

-- The number of each event is the number of events of its process up to it, with itself.
abbrev pub AreNumbered : List TimedEvent → Type 0
AreNumbered events =
    (before beyond : List TimedEvent) (event : TimedEvent) → events ≡ before ++ event ∷ beyond
    → event.number ≡ events_of event.pid.0 before + 1

-- These are the events of the history, in an order in which the processes can have made them, with their numbers and clocks.
pub record AreTimedEvents (P : Program) (H : History) (events : List TimedEvent) : Type 0 where
  pub order : IsEventOrder P H (map (λ event. event.pid.0) events)
  pub numbers : AreNumbered events
  pub clocks : All (λ event. IsClock P H event.pid.0 event.number event.clock) events
