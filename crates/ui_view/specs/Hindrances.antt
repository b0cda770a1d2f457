-- What prevents a command from firing, and the refusal of the command.
use Rattle.std.specs.Prelude.{◌≡◌, ℕ, Option, Some, None, Result, Ok, Err}
use Rattle.dbg_base.specs.declared.refusal.Refusal.{Refusal}
use Rattle.dbg_base.specs.declared.refusal.Refusal.TheVariants.{UnknownChoice, ProcessFull, GuardFalse, Fault, ChannelEmpty}
use Rattle.dbg_base.specs.Configurations.{Configuration}
use Rattle.dbg_base.specs.Firing.{Effect}
use Rattle.ui_view.specs.declared.hindrance.Hindrance.{Hindrance}
use Rattle.ui_view.specs.declared.hindrance.Hindrance.TheVariants as hindrance

-- the refusal of a command that this prevents
abbrev pub refusal_of : Hindrance → Refusal
refusal_of hindrance.NoCommand = UnknownChoice
refusal_of hindrance.Full = ProcessFull
refusal_of hindrance.GuardFalse = GuardFalse
refusal_of hindrance.GuardFaults = Fault
refusal_of (hindrance.NoMessage source) = ChannelEmpty
refusal_of (hindrance.Faults message) = Fault

-- an evaluation of the command faults exactly if something is found
abbrev pub FindsFault : Option Hindrance → Option Effect → Type 0
FindsFault None None = ⊥
FindsFault None (Some effect) = Unit {0}
FindsFault (Some found) effect = (refusal_of found ≡ Fault) × (effect ≡ None)

-- nothing is found exactly if the command fires, and what is found has the refusal of the command
abbrev pub Prevents : Option Hindrance → Result Configuration Refusal → Type 0
Prevents None (Ok after) = Unit {0}
Prevents None (Err refusal) = ⊥
Prevents (Some found) fires = fires ≡ Err (refusal_of found)

-- the same of the choice of a step
abbrev pub IsVerdict : Option Hindrance → ℕ → Result ℕ Refusal → Type 0
IsVerdict None k choice = choice ≡ Ok k
IsVerdict (Some found) k choice = choice ≡ Err (refusal_of found)
