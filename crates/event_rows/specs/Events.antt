-- What events do to the local state of their process.
use Rattle.std.specs.Prelude.{ℕ, List, [], ◌∷◌, Option, Some, None, take}
use Rattle.dbg_base.specs.LocalStates.{LocalState}
use Rattle.dbg_base.specs.Firing.{with_set}
use Rattle.event_rows.specs.Settings.{new_values, with_old_values, HasOldValues}
use Rattle.event_rows.specs.Exchanges.{counted_to, earlier, IsNextCount}
use Rattle.event_rows.specs.EventValues.{EventValue}

-- the local state after the event, from that before it: the new values are set in order, and the message is counted
abbrev pub after_event : EventValue → LocalState → LocalState
after_event event state = counted_to event.exchange (with_set state (new_values event.settings))

-- the local state before the event, from that after it: the old values are restored, from the last to the first, and the message is not
-- counted
abbrev pub before_event : EventValue → LocalState → LocalState
before_event event state = counted_to (earlier event.exchange) (with_old_values state event.settings)

-- the local state after these events, from that before them
abbrev pub after_events : LocalState → List EventValue → LocalState
after_events state [] = state
after_events state (event ∷ events) = after_events (after_event event state) events

-- the local state after the first n events, or after all if there are fewer
abbrev pub past_of : LocalState → List EventValue → ℕ → LocalState
past_of start events n = after_events start (take n events)

-- the event, if there is one, is made again
abbrev pub advanced : Option EventValue → LocalState → LocalState
advanced None state = state
advanced (Some event) state = after_event event state

-- the event, if there is one, is undone
abbrev pub retreated : Option EventValue → LocalState → LocalState
retreated None state = state
retreated (Some event) state = before_event event state

-- the event fits this local state: its old values are those of its variables, and its message is the next to be counted
pub record Fits (event : EventValue) (state : LocalState) : Type 0 where
  pub old_values : HasOldValues state.values event.settings
  pub next_count : IsNextCount event.exchange state
