-- What the calls of a world require and do.
use Rattle.std.specs.Prelude.{◌≡◌, ℕ, ◌-◌, ◌<◌, ℤ, List, [], length, Option, Some, None, Result, Ok, Err, slice_get, slice_index_or}
use Rattle.dbg_base.specs.declared.refusal.Refusal.{Refusal}
use Rattle.dbg_base.specs.declared.refusal.Refusal.TheVariants.{NothingToUndo, Consequence}
use Rattle.dbg_base.specs.Trees.{Program, process_of}
use Rattle.dbg_base.specs.Firing.{fire}
use Rattle.dbg_base.specs.SystemStates.{history_of}
use Rattle.dbg_base.specs.Reversal.{MayUndo}
use Rattle.dbg_base.specs.Choices.{CannotUndo}
use Rattle.dbg_base.specs.declared.ids.Pid.{Pid}
use Rattle.fifo_grid.specs.Grids.{messages_at}
use Rattle.event_rows.specs.declared.exchange.Exchange.{Exchange}
use Rattle.event_rows.specs.declared.exchange.Exchange.TheVariants.{Sent}
use Rattle.event_rows.specs.EventValues.{EventValue}
use Rattle.causal_world.specs.Scenes.{Scene, IsWorldOf, event_at, with_done, unmade}

-- the world is of some program
abbrev pub IsSomeWorld : Scene → Type 0
IsSomeWorld w = (P : Program) × IsWorldOf P w

-- Process p makes choice k of the program, which makes this event.
pub record Makes (P : Program) (w : Scene) (p k : ℕ) (event : EventValue) : Type 0 where
  pub here : p < length P
  pub command : k < length (process_of P p).commands
  pub fires : fire P w.standing p k ≡ Ok (with_done w.standing p event)
  pub is : event_at P w.standing p k ≡ Some event

-- the same, and the world is of that program
abbrev pub CanMake : Scene → ℕ → ℕ → EventValue → Type 0
CanMake w p k event = (P : Program) × IsWorldOf P w × Makes P w p k event

-- the last event of a process
abbrev pub last_of : List (List EventValue) → ℕ → Option EventValue
last_of events p = let own = slice_index_or events p [] in slice_get own (length own - 1)

abbrev pub last_event : Scene → ℕ → Option EventValue
last_event w p = last_of w.events p

-- The message that process p sent by this exchange is still on its way, if it sent one to an existing process.
abbrev pub NotReceived : List (List (List ℤ)) → ℕ → Exchange → Type 0
NotReceived channels p (Sent target value count) =
    p < length channels → target.0 < length (slice_index_or channels p []) → 0 < length (messages_at channels p target.0)
NotReceived channels p exchange = Unit {0}

-- process q has received it
abbrev pub Received : List (List (List ℤ)) → ℕ → Exchange → ℕ → Type 0
Received channels p (Sent target value count) q =
    (target.0 ≡ q) × (p < length channels) × (q < length (slice_index_or channels p [])) × (length (messages_at channels p q) ≡ 0)
Received channels p exchange q = ⊥

-- the process that has received what was sent, if one has
abbrev pub ReceivedBy : List (List (List ℤ)) → ℕ → Exchange → Option Pid → Type 0
ReceivedBy channels p exchange None = NotReceived channels p exchange
ReceivedBy channels p exchange (Some q) = Received channels p exchange q.0

-- The exchange of the last event of a process, if its message was not received. Otherwise the process has no event, or the refusal names
-- the receiver.
abbrev pub LastExchange : List (List EventValue) → List (List (List ℤ)) → ℕ → Result Exchange Refusal → Type 0
LastExchange events channels p (Ok exchange) =
    (event : EventValue) × (last_of events p ≡ Some event) × (event.exchange ≡ exchange) × NotReceived channels p exchange
LastExchange events channels p (Err NothingToUndo) = last_of events p ≡ None
LastExchange events channels p (Err (Consequence q)) =
    (event : EventValue) × (last_of events p ≡ Some event) × Received channels p event.exchange q.0
LastExchange events channels p (Err refusal) = ⊥

-- The last event of process p exchanged this, and it may be undone.
pub record UndoableBy (w : Scene) (p : ℕ) (exchange : Exchange) : Type 0 where
  pub event : EventValue
  pub was : last_event w p ≡ Some event
  pub exchanged : event.exchange ≡ exchange
  pub may : (P : Program) → IsWorldOf P w → MayUndo P (history_of w.state) p × IsWorldOf P (unmade w p event)

-- the exchange of the last event of a process, which may be undone, or why it may not
abbrev pub Undoable : Scene → ℕ → Result Exchange Refusal → Type 0
Undoable w p (Ok exchange) = UndoableBy w p exchange
Undoable w p (Err refusal) = (P : Program) → IsWorldOf P w → CannotUndo P w.state p refusal
