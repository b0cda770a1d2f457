-- Why a cut has no fewer events of a process.
use Rattle.std.specs.Prelude.{◌≡◌, ◌≢◌, ℕ, ◌-◌, ◌≤◌, true, List, Option, MatchOption, slice_index}
use Rattle.dbg_base.specs.Trees.{Program}
use Rattle.dbg_base.specs.Orders.{Event}
use Rattle.dbg_base.specs.Predicates.{Conjunct, IsLeast}
use Rattle.dbg_base.specs.Eliminations.{is_ruled_out}
use Rattle.dbg_base.specs.SystemStates.{history_of}
use Rattle.causal_world.specs.Scenes.{Scene, IsWorldOf}
use Rattle.ui_causes.specs.declared.past.EventPlace.{EventPlace}
use Rattle.ui_causes.specs.CausalPasts.{IsEvent, IsBefore, HappenedBefore, IsFirstAfter}

-- The second is an event of another process, and the first happened before it.
pub record Needs (P : Program) (E : List Event) (w : Scene) (earlier event : EventPlace) : Type 0 where
  pub other : event.pid.0 ≢ earlier.pid.0
  pub is : IsEvent w event
  pub before : IsBefore P E earlier event

-- The cut has this event of another process, which depends on the first one. It is the first such event of its process.
pub record IsReason (w : Scene) (cut : List ℕ) (earlier reason : EventPlace) : Type 0 where
  pub other : reason.pid.0 ≢ earlier.pid.0
  pub inside : reason.number ≤ slice_index cut reason.pid.0
  pub is : IsEvent w reason
  pub depends : HappenedBefore w earlier reason
  pub first : IsFirstAfter w earlier reason.pid.0 reason.number

-- There is no such event. If the cut is the least that satisfies conjuncts, and has the first event, then one of the conjuncts is false
-- before that.
abbrev pub HasNoReason : Scene → List ℕ → EventPlace → Type 0
HasNoReason w cut earlier =
    (P : Program) (conjuncts : List Conjunct) → IsWorldOf P w → IsLeast P (history_of w.state) conjuncts cut → 1 ≤ earlier.number
    → earlier.number ≤ slice_index cut earlier.pid.0
    → is_ruled_out P (history_of w.state) conjuncts earlier.pid.0 (earlier.number - 1) ≡ true

abbrev pub FindsReason : Scene → List ℕ → EventPlace → Option EventPlace → Type 0
FindsReason w cut earlier found = MatchOption found (HasNoReason w cut earlier) (IsReason w cut earlier)
