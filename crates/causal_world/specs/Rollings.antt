-- Events that are undone one after the other.
use Rattle.std.specs.Prelude.{◌≡◌, ℕ, ◌<◌, List, [], ◌∷◌, length, Some, slice_get, slice_index, slice_index_or}
use Rattle.dbg_base.specs.Trees.{Program}
use Rattle.dbg_base.specs.Reversal.{MayUndo}
use Rattle.dbg_base.specs.LocalStates.{LocalState}
use Rattle.dbg_base.specs.SystemStates.{SystemState, line_of, place_at, history_of, after_choice, after_redo, redo_line}
use Rattle.fifo_grid.specs.Grids.{GridState}
use Rattle.event_rows.specs.declared.exchange.Exchange.{Exchange}
use Rattle.event_rows.specs.EventValues.{EventValue}
use Rattle.causal_world.specs.Room.{HasRoomBefore}
use Rattle.causal_world.specs.declared.rolled.Taken.{Taken}
use Rattle.causal_world.specs.Pasts.{PastState}
use Rattle.causal_world.specs.Scenes.{Scene, scene, IsWorldOf, unmade}
use Rattle.causal_world.specs.Worlds.{IsSomeWorld, UndoableBy, last_event}

-- the world without these events
abbrev pub unmade_all : Scene → List Taken → Scene
unmade_all w [] = w
unmade_all w (taken ∷ others) = unmade_all (unmade w taken.pid.0 taken.event) others

-- each was the last event of its process when it was undone, and the world without it is of the program, too
abbrev pub AreTakenBack : Program → Scene → List Taken → Type 0
AreTakenBack P w [] = Unit {0}
AreTakenBack P w (taken ∷ others) =
    (last_event w taken.pid.0 ≡ Some taken.event) × IsWorldOf P (unmade w taken.pid.0 taken.event)
    × AreTakenBack P (unmade w taken.pid.0 taken.event) others

-- The last event of process p was this one, and without it the world is `new`.
pub record TakesOut (w : Scene) (p : ℕ) (event : EventValue) (new : Scene) : Type 0 where
  pub was : last_event w p ≡ Some event
  pub may : (P : Program) → IsWorldOf P w → MayUndo P (history_of w.state) p × IsWorldOf P (unmade w p event)
  pub left : new ≡ unmade w p event

-- These events were undone from the world `before`, which was of the program, and left this world.
pub record IsRolledFrom (P : Program) (before : Scene) (taken : List Taken) (w : Scene) : Type 0 where
  pub of : IsWorldOf P before
  pub took : AreTakenBack P before taken
  pub is : w ≡ unmade_all before taken

-- The last event of process p may be undone, and there is room for the message that returns.
pub record CanTakeBack (w : Scene) (grid : GridState) (p : ℕ) : Type 0 where
  pub world : IsSomeWorld w
  pub event : EventValue
  pub was : last_event w p ≡ Some event
  pub may : (P : Program) → IsWorldOf P w → MayUndo P (history_of w.state) p × IsWorldOf P (unmade w p event)
  pub messages : HasRoomBefore grid p event.exchange

-- the same with any lines and places
abbrev pub CanTakeFrom : List LocalState → GridState → PastState → ℕ → Type 0
CanTakeFrom states grid past p = (state : SystemState) × CanTakeBack (scene state states grid.channels past) grid p

-- process p has events beyond the cut, and its last event may be undone
abbrev pub IsNextBack : Scene → List ℕ → ℕ → Type 0
IsNextBack w cut p = (slice_index cut p < length (slice_index_or w.kinds p [])) × ((exchange : Exchange) × UndoableBy w p exchange)

-- the same from some earlier world
pub record IsRolled (P : Program) (taken : List Taken) (w : Scene) : Type 0 where
  pub before : Scene
  pub from : IsRolledFrom P before taken w

-- Process p made a choice in the world `before`, which was of the program. These choices were cut off, and this world is the result.
pub record IsStepped (P : Program) (p : ℕ) (cutoff : List ℕ) (w : Scene) : Type 0 where
  pub before : Scene
  pub of : IsWorldOf P before
  pub now : IsWorldOf P w
  pub here : p < length P
  pub choice : ℕ
  pub state : w.state ≡ after_choice before.state p choice
  pub cut : cutoff ≡ redo_line before.state p

-- Process p made the choice at its place again, and this world is the result.
pub record IsRedone (P : Program) (p : ℕ) (w : Scene) : Type 0 where
  pub before : Scene
  pub of : IsWorldOf P before
  pub now : IsWorldOf P w
  pub here : p < length P
  pub choice : ℕ
  pub next : slice_get (line_of before.state p) (place_at before.state p) ≡ Some choice
  pub state : w.state ≡ after_redo before.state p
