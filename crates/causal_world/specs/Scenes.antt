-- What a world shows: its state, and its events.
use Rattle.std.specs.Prelude.{◌≡◌, ℕ, ◌+◌, ◌-◌, ◌<◌, ◌≤◌, ℤ, List, [], ◌∷◌, ◌++◌, take, drop, length, Option, Some, None, Result, Ok, Err}
use Rattle.std.specs.Prelude.{replicate, slice_get, slice_index_or, slice_set}
use Rattle.std.specs.Option.{option_map}
use Rattle.dbg_base.specs.declared.refusal.Refusal.{Refusal}
use Rattle.dbg_base.specs.Trees.{Action, Sends, Receives, Command, Program, command_of}
use Rattle.dbg_base.specs.LocalStates.{LocalState}
use Rattle.dbg_base.specs.Configurations.{Configuration, start_of, state_in, channel_of}
use Rattle.dbg_base.specs.Firing.{Effect, effect_of, fire}
use Rattle.dbg_base.specs.Histories.{IsPossible}
use Rattle.dbg_base.specs.Orders.{Event, order, choices_of}
use Rattle.dbg_base.specs.Reversal.{without_back}
use Rattle.dbg_base.specs.SystemStates.{SystemState, line_of, place_at, history_of, configuration_of, after_undo, IsStateOf}
use Rattle.fifo_grid.specs.Grids.{messages_at, with_messages}
use Rattle.event_rows.specs.declared.exchange.Exchange.{Exchange}
use Rattle.event_rows.specs.declared.exchange.Exchange.TheVariants.{Nothing, Sent, Took}
use Rattle.event_rows.specs.EventValues.{EventValue}
use Rattle.event_rows.specs.Settings.{settings_of}
use Rattle.event_rows.specs.Events.{after_event, before_event}
use Rattle.cut_core.specs.declared.kind.Kind.{Kind}
use Rattle.causal_world.specs.Pasts.{PastState, AreClocksOf, kinds_of, kind_done, with_kind, without_kind, row_at, without_row}

-- lines and places, local states and channels; and for each process its start, its events, what they did to messages, and the clocks before
-- and after them
pub record Scene : Type 0 where
  pub state : SystemState
  pub standing : Configuration
  pub starts : List LocalState
  pub events : List (List EventValue)
  pub kinds : List (List Kind)
  pub clocks : List (List (List ℕ))

abbrev pub scene : SystemState → List LocalState → List (List (List ℤ)) → PastState → Scene
scene state states channels past = record {
  state = state;
  standing = record { states = states; channels = channels };
  starts = past.starts;
  events = past.events;
  kinds = past.kinds;
  clocks = past.clocks;
}

-- What an event is.

-- the message that process p receives by this action: the head of its channel
abbrev pub message_for : Configuration → ℕ → Action → Option ℤ
message_for c p (Receives source variable) = slice_get (channel_of c source p) 0
message_for c p action = None

-- the exchange of process p by this action, with the count of its message
abbrev pub exchange_for : LocalState → Action → Option ℤ → Option ℤ → Exchange
exchange_for state (Sends target value) (Some sent) taken =
    Sent (record { 0 = target }) sent (slice_index_or state.sent target 0 + 1)
exchange_for state (Receives source variable) sent (Some message) =
    Took (record { 0 = source }) message (slice_index_or state.got source 0 + 1)
exchange_for state action sent taken = Nothing

-- the event of choice k in this local state, for this action with this effect and this received message
abbrev pub event_by : ℕ → Action → LocalState → Option ℤ → Effect → EventValue
event_by k action state taken effect = record {
  choice = k;
  settings = settings_of state.values effect.sets;
  exchange = exchange_for state action effect.message taken;
}

-- the event of a command, unless an evaluation faults
abbrev pub event_of : ℕ → Command → LocalState → Option ℤ → Option EventValue
event_of k command state taken = option_map (event_by k command.action state taken) (effect_of command state taken)

abbrev pub event_if : Configuration → ℕ → ℕ → Option Command → Option EventValue
event_if c p k None = None
event_if c p k (Some command) = event_of k command (state_in c p) (message_for c p command.action)

-- the event that process p makes at c by choice k
abbrev pub event_at : Program → Configuration → ℕ → ℕ → Option EventValue
event_at P c p k = event_if c p k (command_of P p k)

-- one more event of process p, if there is one
abbrev pub with_event : List (List EventValue) → ℕ → Option EventValue → List (List EventValue)
with_event events p None = events
with_event events p (Some event) = slice_set events p (slice_index_or events p [] ++ event ∷ [])

-- continues from the configuration to which a choice led, if it fired
abbrev pub events_then : Result Configuration Refusal → List (List EventValue) → (Configuration → List (List EventValue))
    → List (List EventValue)
events_then (Ok c) events next = next c
events_then (Err refusal) events next = events

-- the events of each process as these choices fire one after the other from c on, appended to its earlier events
abbrev pub events_from : Program → Configuration → List (List EventValue) → List Event → List (List EventValue)
events_from P c events [] = events
events_from P c events (e ∷ E) =
    events_then (fire P c e.process e.choice) events
    (λ d. events_from P d (with_event events e.process (event_at P c e.process e.choice)) E)

abbrev pub events_of : Program → List Event → List (List EventValue)
events_of P E = events_from P (start_of P) (replicate (length P) []) E

-- The world is of the program P. Its lines and places are a state of P with a possible history. Local states and channels are those of the
-- play. Its events are those of the choices as they fire in some order, and counts and clocks are those of the events.
pub record IsWorldOf (P : Program) (w : Scene) : Type 0 where
  pub state : IsStateOf P w.state
  pub possible : IsPossible P (history_of w.state)
  pub standing : w.standing ≡ configuration_of P w.state
  pub starts : w.starts ≡ (start_of P).states
  pub fired : List Event
  pub history : choices_of (length P) fired ≡ history_of w.state
  pub leads : order P fired ≡ Ok w.standing
  pub events : w.events ≡ events_of P fired
  pub counts : w.kinds ≡ kinds_of P (history_of w.state)
  pub clocks : AreClocksOf w.kinds w.clocks

-- What an event changes.

-- the channels after this exchange of process p: a sent message is appended, and a received one leaves the head
abbrev pub channels_after : List (List (List ℤ)) → ℕ → Exchange → List (List (List ℤ))
channels_after channels p Nothing = channels
channels_after channels p (Sent target value count) =
    with_messages channels p target.0 (messages_at channels p target.0 ++ value ∷ [])
channels_after channels p (Took source message count) =
    with_messages channels source.0 p (drop 1 (messages_at channels source.0 p))

-- the channels before it: a sent message leaves the tail, and a received one returns to the head
abbrev pub channels_before : List (List (List ℤ)) → ℕ → Exchange → List (List (List ℤ))
channels_before channels p Nothing = channels
channels_before channels p (Sent target value count) =
    with_messages channels p target.0 (without_back (messages_at channels p target.0))
channels_before channels p (Took source message count) =
    with_messages channels source.0 p (message ∷ messages_at channels source.0 p)

-- the configuration after this event of process p
abbrev pub with_done : Configuration → ℕ → EventValue → Configuration
with_done c p event = record {
  states = slice_set c.states p (after_event event (state_in c p));
  channels = channels_after c.channels p event.exchange;
}

-- the configuration before this event of process p
abbrev pub with_undone : Configuration → ℕ → EventValue → Configuration
with_undone c p event = record {
  states = slice_set c.states p (before_event event (state_in c p));
  channels = channels_before c.channels p event.exchange;
}

-- the place of process p moves back by one, and these choices follow it
abbrev pub restored : SystemState → ℕ → List ℕ → SystemState
restored M p choices = record {
  lines = slice_set M.lines p (take (place_at M p - 1) (line_of M p) ++ choices);
  places = slice_set M.places p (place_at M p - 1);
}

-- the world after this event of process p, with this state and these clocks
abbrev pub made : Scene → ℕ → EventValue → SystemState → List (List (List ℕ)) → Scene
made w p event state clocks = record w {
  state = state;
  standing = with_done w.standing p event;
  events = with_event w.events p (Some event);
  kinds = with_kind w.kinds p (kind_done event.exchange);
  clocks = clocks;
}

-- the events without the last one of process p
abbrev pub without_event : List (List EventValue) → ℕ → List (List EventValue)
without_event events p = slice_set events p (without_back (slice_index_or events p []))

abbrev pub unmade : Scene → ℕ → EventValue → Scene
unmade w p event = record w {
  state = after_undo w.state p;
  standing = with_undone w.standing p event;
  events = without_event w.events p;
  kinds = without_kind w.kinds p;
  clocks = without_row w.clocks p;
}

-- The second world has all events and clocks of the first, and perhaps more.
pub record IsEarlier (w more : Scene) : Type 0 where
  pub processes : length w.clocks ≡ length more.clocks
  pub starts : w.starts ≡ more.starts
  pub events : (p n : ℕ) → n ≤ length (slice_index_or w.events p [])
      → take n (slice_index_or more.events p []) ≡ take n (slice_index_or w.events p [])
  pub clocks : (p n : ℕ) → n < length (slice_index_or w.clocks p []) → row_at more.clocks p n ≡ row_at w.clocks p n
