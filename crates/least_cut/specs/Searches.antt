-- The search for a cut in a world, by the truths and clocks that are kept.
use Rattle.std.specs.Prelude.{◌≡◌, ◌≢◌, ℕ, ◌+◌, ◌<◌, ◌≤◌, Bool, true, false, not, ◌&&◌, ◌==◌, List, [], ◌∷◌}
use Rattle.std.specs.Prelude.{length, map, min, replicate, sum}
use Rattle.std.specs.Prelude.{slice_index, slice_index_or}
use Rattle.std.specs.List.{list_any}
use Rattle.dbg_base.specs.declared.elimination.Elimination.{Elimination}
use Rattle.dbg_base.specs.declared.elimination.Cause.{Cause}
use Rattle.dbg_base.specs.declared.elimination.Cause.TheVariants.{FalseAt, Passed}
use Rattle.dbg_base.specs.Cuts.{IsAtMost}
use Rattle.dbg_base.specs.SystemStates.{place_at}
use Rattle.dbg_base.specs.Eliminations.{eliminated}
use Rattle.causal_world.specs.Scenes.{Scene}
use Rattle.causal_world.specs.Pasts.{row_at}
use Rattle.least_cut.specs.Watches.{TruthLine}

-- a conjunct of process p is false after its n-th event
abbrev pub is_false_in : List TruthLine → ℕ → ℕ → Bool
is_false_in lines p n = list_any (λ line. (line.process == p) && not (slice_index_or line.truths n true)) lines

-- Why a process moves from one component to another.
abbrev pub IsDue : Scene → List TruthLine → List ℕ → ℕ → ℕ → ℕ → Cause → Type 0
IsDue w lines tuple p from to FalseAt = (is_false_in lines p from ≡ true) × (to ≡ from + 1)
IsDue w lines tuple p from to (Passed q n) =
    (q.0 < length w.state.places) × (n ≤ slice_index tuple q.0) × (n ≤ place_at w.state q.0)
    × (slice_index (row_at w.clocks q.0 n) p ≡ to) × (from < to)

-- the elimination is justified at the tuple
pub record IsStep (w : Scene) (lines : List TruthLine) (tuple : List ℕ) (step : Elimination) : Type 0 where
  pub here : step.pid.0 < length w.state.places
  pub from : step.from ≡ slice_index tuple step.pid.0
  pub within : step.from ≤ place_at w.state step.pid.0
  pub due : IsDue w lines tuple step.pid.0 step.from step.to step.cause

-- each elimination is justified after those before it
abbrev pub IsTrailFrom : Scene → List TruthLine → List ℕ → List Elimination → Type 0
IsTrailFrom w lines tuple [] = Unit {0}
IsTrailFrom w lines tuple (step ∷ steps) = IsStep w lines tuple step × IsTrailFrom w lines (eliminated tuple step) steps

-- the tuple with which the search begins
abbrev pub none_of : Scene → List ℕ
none_of w = replicate (length w.state.places) 0

-- process q rules out nothing more: its conjuncts are true there, and no component of its clock is greater
pub record IsSettledAt (w : Scene) (lines : List TruthLine) (tuple : List ℕ) (q : ℕ) : Type 0 where
  pub truth : slice_index tuple q ≤ place_at w.state q → is_false_in lines q (slice_index tuple q) ≡ false
  pub clock : IsAtMost (row_at w.clocks q (min (slice_index tuple q) (place_at w.state q))) tuple

-- component p moved to its component in the clock of process q, at the component of q or its last event, and no other component moved
pub record PassesPart (w : Scene) (old : List ℕ) (q p : ℕ) (new : List ℕ) : Type 0 where
  pub part : slice_index (row_at w.clocks q (min (slice_index old q) (place_at w.state q))) p ≤ slice_index new p
  pub own : slice_index new q ≡ slice_index old q
  pub others : (r : ℕ) → r ≢ p → slice_index new r ≡ slice_index old r

-- the most eliminations with these places: the number of all events, plus one for each process
abbrev pub steps_up_to : List ℕ → ℕ
steps_up_to places = sum (map (λ place. place + 1) places)
