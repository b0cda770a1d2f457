-- Commands that undo an event.
use Rattle.std.specs.Prelude.{◌≡◌, ℕ, ◌-◌, List, slice_set}
use Rattle.dbg_base.specs.declared.said.Reply.{Reply}
use Rattle.dbg_base.specs.declared.said.Said.{Said}
use Rattle.dbg_base.specs.declared.said.Said.TheVariants.{Accepted}
use Rattle.dbg_base.specs.Trees.{Program}
use Rattle.dbg_base.specs.Acts.{Acts}
use Rattle.dbg_base.specs.Calls.{Plan}
use Rattle.dbg_base.specs.Calls as calls
use Rattle.dbg_base.specs.ModelStates.{ModelState}
use Rattle.dbg_base.specs.Reversal.{MayUndo, IsRollback}
use Rattle.dbg_base.specs.SystemStates.{history_of, place_at}
use Rattle.causal_world.specs.Scenes.{Scene, IsWorldOf}
use Rattle.ui_causes.specs.declared.past.EventPlace.{EventPlace}
use Rattle.ui_causes.specs.declared.undoing.UndoCommand.{UndoCommand}
use Rattle.ui_causes.specs.declared.undoing.UndoCommand.TheVariants.{Undo, Rollback}
use Rattle.ui_causes.specs.CausalPasts.{IsEvent}

-- the command of process p
abbrev pub plan_of : ℕ → UndoCommand → Plan
plan_of p Undo = calls.Undo p
plan_of p (Rollback n) = calls.Rollback p n

-- The command is accepted in each session of this world, and leaves so many events of each process.
abbrev pub LeavesPlaces : Scene → Plan → List ℕ → Type 0
LeavesPlaces w plan left =
    (P : Program) (M M' : ModelState) (said : Said) → IsWorldOf P w → M.system ≡ w.state → Acts P plan M said M'
    → (reply : Reply) × (said ≡ Accepted reply) × (M'.system.places ≡ left)

-- The command is accepted. What it leaves is the greatest consistent cut without the event: it undoes the event and all that depend on it,
-- and no others.
pub record IsUndoing (w : Scene) (event : EventPlace) (command : UndoCommand) (left : List ℕ) : Type 0 where
  pub leaves : LeavesPlaces w (plan_of event.pid.0 command) left
  pub greatest : (P : Program) → IsWorldOf P w → IsRollback P (history_of w.state) event.pid.0 (event.number - 1) left

-- the event may be undone alone
pub record IsAlone (w : Scene) (event : EventPlace) (left : List ℕ) : Type 0 where
  pub last : event.number ≡ place_at w.state event.pid.0
  pub alone : left ≡ slice_set w.state.places event.pid.0 (event.number - 1)
  pub may : (P : Program) → IsWorldOf P w → MayUndo P (history_of w.state) event.pid.0

-- an undo if the event may be undone alone, and a rollback otherwise
abbrev pub IsChosen : Scene → EventPlace → List ℕ → UndoCommand → Type 0
IsChosen w event left Undo = IsAlone w event left
IsChosen w event left (Rollback n) = n ≡ event.number - 1
