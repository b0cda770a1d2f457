-- What is decided before a process makes a choice.
use Rattle.std.specs.Prelude.{◌≡◌, ℕ, ◌<◌, ℤ, length, Option, Some, None, Result, Ok, Err, slice_get, slice_index_or}
use Rattle.dbg_base.specs.declared.limits.TheConstants.{EVENTS}
use Rattle.dbg_base.specs.declared.expr.Direction.{Direction}
use Rattle.dbg_base.specs.declared.refusal.Refusal.{Refusal}
use Rattle.dbg_base.specs.declared.refusal.Refusal.TheVariants.{Fault, ChannelEmpty}
use Rattle.dbg_base.specs.declared.ids.Choice.{Choice}
use Rattle.dbg_base.specs.Trees.{Action, Receives, Command, Program, process_of}
use Rattle.dbg_base.specs.LocalStates.{LocalState, counts_of}
use Rattle.dbg_base.specs.Configurations.{Configuration, channel_of}
use Rattle.dbg_base.specs.Firing.{effect_of, fire}
use Rattle.dbg_base.specs.Choices.{lowest_enabled}
use Rattle.event_rows.specs.EventValues.{EventValue}
use Rattle.causal_world.specs.Scenes.{event_of, event_at, with_done}

-- a process may count one more message in this local state, to or from any process
abbrev pub CanCount : LocalState → Type 0
CanCount state = (direction : Direction) (q : ℕ) → slice_index_or (counts_of direction state) q 0 < EVENTS

-- the message of an action that receives; an error if there is none
abbrev pub TakesPrefix : Result (Option ℤ) Refusal → Option ℤ → Type 0
TakesPrefix taken None = taken ≡ Err ChannelEmpty
TakesPrefix taken (Some message) = taken ≡ Ok (Some message)

-- the message that the action receives, or an error if there is nothing to receive
abbrev pub Takes : Result (Option ℤ) Refusal → Action → Configuration → ℕ → Type 0
Takes taken (Receives source variable) c p = TakesPrefix taken (slice_get (channel_of c source p) 0)
Takes taken action c p = taken ≡ Ok None

-- the event of the command in this local state, with this received message, or a fault of an evaluation
abbrev pub MakesEvent : Result EventValue Refusal → ℕ → Command → LocalState → Option ℤ → Type 0
MakesEvent (Ok event) k command state taken = event_of k command state taken ≡ Some event
MakesEvent (Err refusal) k command state taken = (refusal ≡ Fault) × (effect_of command state taken ≡ None)

-- the event that the command makes, with the configuration after it, or why the command does not fire
abbrev pub DecidesBy : Result EventValue Refusal → Option EventValue → Result Configuration Refusal → Configuration → ℕ → Type 0
DecidesBy (Ok event) event_is fires c p = (event_is ≡ Some event) × (fires ≡ Ok (with_done c p event))
DecidesBy (Err refusal) event_is fires c p = fires ≡ Err refusal

-- the same, unless memory ran out
abbrev pub Decides : {E : Type 0} → Result (Result EventValue Refusal) E → Option EventValue → Result Configuration Refusal
    → Configuration → ℕ → Type 0
Decides (Ok found) event_is fires c p = DecidesBy found event_is fires c p
Decides (Err e) event_is fires c p = Unit {0}

-- the first choice that fires, with its event, or that none fires
abbrev pub Finds : Program → Option (Choice × EventValue) → Configuration → ℕ → Type 0
Finds P None c p = lowest_enabled P c p ≡ None
Finds P (Some found) c p =
    (lowest_enabled P c p ≡ Some found.0.0) × (found.0.0 < length (process_of P p).commands) × (event_at P c p found.0.0 ≡ Some found.1)
    × (fire P c p found.0.0 ≡ Ok (with_done c p found.1))
