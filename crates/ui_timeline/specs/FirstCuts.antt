-- Orders in which the events of a cut come first.
use Rattle.std.specs.Prelude.{◌≡◌, ◌<◌, ◌≤◌, ◌==◌, ℕ, List, ◌++◌, length, slice_index, nat_lt, Option, MatchOption}
use Rattle.std.specs.List.{count_by}
use Rattle.dbg_base.specs.declared.ids.Pid.{Pid}
use Rattle.dbg_base.specs.Trees.{Program}
use Rattle.dbg_base.specs.SystemStates.{SystemState, history_of, place_at}
use Rattle.dbg_base.specs.Reversal.{MayUndo}
use Rattle.causal_world.specs.Scenes.{Scene, IsWorldOf}

-- how often process p is in a list
abbrev pub times : ℕ → List ℕ → ℕ
times p order = count_by (λ q. q == p) order

-- The list begins with the events of the cut.
pub record AreFirst (cut order : List ℕ) : Type 0 where
  pub first : List ℕ
  pub others : List ℕ
  pub is : order ≡ first ++ others
  pub counts : (p : ℕ) → times p first ≡ slice_index cut p

-- The list ends with the events of the cut.
pub record AreLast (cut order : List ℕ) : Type 0 where
  pub others : List ℕ
  pub last : List ℕ
  pub is : order ≡ others ++ last
  pub counts : (p : ℕ) → times p last ≡ slice_index cut p

-- how many of the cuts do not have the last event of process p
abbrev pub cuts_before : List (List ℕ) → SystemState → ℕ → ℕ
cuts_before cuts state p = count_by (λ cut. nat_lt (slice_index cut p) (place_at state p)) cuts

-- No process has an event, or this process may undo its last event, and as many cuts are before that event as before each other one that may
-- be undone, or more.
abbrev pub IsLatest : List (List ℕ) → Scene → Option Pid → Type 0
IsLatest cuts w best = MatchOption best ((p : ℕ) → place_at w.state p ≡ 0) (λ pid. (pid.0 < length w.state.places)
    × ((P : Program) → IsWorldOf P w → MayUndo P (history_of w.state) pid.0)
    × ((P : Program) (q : ℕ) → IsWorldOf P w → MayUndo P (history_of w.state) q → cuts_before cuts w.state q ≤ cuts_before cuts w.state pid.0))
