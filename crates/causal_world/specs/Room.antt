-- Room for the messages of an event.
use Rattle.std.specs.Prelude.{◌≡◌, ◌≢◌, ℕ, ◌+◌, ◌-◌, ◌<◌, ◌≤◌, Bool, ◌==◌, ◌&&◌, List, ◌∷◌, length, slice_index, slice_index_or, [], Some, if◌then◌else◌}
use Rattle.fifo_grid.specs.Grids.{GridState, room_at}
use Rattle.cut_core.specs.declared.kind.Kind.{Kind}
use Rattle.std.specs.List.{count_by}
use Rattle.cut_core.specs.Tallies.{got_by}
use Rattle.event_rows.specs.declared.exchange.Exchange.{Exchange}
use Rattle.event_rows.specs.declared.exchange.Exchange.TheVariants.{Sent, Took}
use Rattle.event_rows.specs.EventValues.{EventValue}
use Rattle.causal_world.specs.declared.rolled.Taken.{Taken}
use Rattle.causal_world.specs.Pasts.{PastState, AreClocksOf, HasRoomFor, kind_done, with_kind}
use Rattle.causal_world.specs.Scenes.{with_event}

-- if both processes exist, there is room for so many messages from the first to the second
abbrev pub HasRooms : GridState → ℕ → ℕ → ℕ → Type 0
HasRooms grid more i j = i < length grid.channels → j < length (slice_index_or grid.channels i []) → more ≤ room_at grid.room i j

abbrev pub HasRoom : GridState → ℕ → ℕ → Type 0
HasRoom grid i j = HasRooms grid 1 i j

-- there is room for so many messages on the channel to which the exchange sends
abbrev pub HasRoomsAfter : GridState → ℕ → Exchange → ℕ → Type 0
HasRoomsAfter grid p (Sent target value count) more = HasRooms grid more p target.0
HasRoomsAfter grid p exchange more = Unit {0}

-- there is room for the message that it sends
abbrev pub HasRoomAfter : GridState → ℕ → Exchange → Type 0
HasRoomAfter grid p exchange = HasRoomsAfter grid p exchange 1

-- there is room for the message that it received
abbrev pub HasRoomBefore : GridState → ℕ → Exchange → Type 0
HasRoomBefore grid p (Took source message count) = HasRoom grid source.0 p
HasRoomBefore grid p exchange = Unit {0}

-- how many messages the exchange of process p appends to the channel from process i to process j
abbrev pub puts_after : ℕ → Exchange → ℕ → ℕ → ℕ
puts_after p (Sent target value count) i j = if (p == i) && (target.0 == j) then 1 else 0
puts_after p exchange i j = 0

-- how many messages return there as it is undone
abbrev pub puts_before : ℕ → Exchange → ℕ → ℕ → ℕ
puts_before p (Took source message count) i j = if (source.0 == i) && (p == j) then 1 else 0
puts_before p exchange i j = 0

-- the same for events that were undone and are made again
abbrev pub puts_of : List Taken → ℕ → ℕ → ℕ
puts_of [] i j = 0
puts_of (taken ∷ others) i j = puts_after taken.pid.0 taken.event.exchange i j + puts_of others i j

-- it is an event of process p
abbrev pub is_of : ℕ → Taken → Bool
is_of p taken = taken.pid.0 == p

-- there is room for all messages that they send, between so many processes
abbrev pub HasRoomForth : ℕ → List (List ℕ) → List Taken → Type 0
HasRoomForth processes room taken = (i j : ℕ) → i < processes → j < processes → puts_of taken i j ≤ room_at room i j

-- there is room for the events of each process
abbrev pub HasRoomForEach : PastState → List Taken → Type 0
HasRoomForEach past taken = (p : ℕ) → p < length past.kinds → HasRoomFor past p (count_by (is_of p) taken)

-- there is room for all messages that return as the events beyond the cut are undone
abbrev pub HasRoomBack : List (List ℕ) → List (List Kind) → List ℕ → Type 0
HasRoomBack room kinds cut = (i j : ℕ) → i < length kinds → j < length kinds
    → got_by kinds j i (length (slice_index_or kinds j [])) ≤ got_by kinds j i (slice_index cut j) + room_at room i j

-- An event of process p was appended, with what it did to messages and its clock. It took room for one event of p, and no other room.
pub record IsAppended (old : PastState) (p : ℕ) (event : EventValue) (new : PastState) : Type 0 where
  pub starts : new.starts ≡ old.starts
  pub events : new.events ≡ with_event old.events p (Some event)
  pub kinds : new.kinds ≡ with_kind old.kinds p (kind_done event.exchange)
  pub clocks : AreClocksOf new.kinds new.clocks
  pub own : (n : ℕ) → HasRoomFor old p n → HasRoomFor new p (n - 1)
  pub others : (q n : ℕ) → q ≢ p → HasRoomFor old q n → HasRoomFor new q n
