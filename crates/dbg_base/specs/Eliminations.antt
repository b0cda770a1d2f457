-- Steps of the search for a cut. Each can be checked by itself.
use Rattle.std.specs.Prelude.{◌≡◌, ℕ, ◌+◌, ◌<◌, ◌≤◌, Bool, true, not, ◌&&◌, ◌==◌, List, [], ◌∷◌, length, map, replicate, slice_index}
use Rattle.std.specs.Prelude.{slice_set, sum}
use Rattle.std.specs.List.{list_any}
use Rattle.dbg_base.specs.declared.elimination.Elimination.{Elimination}
use Rattle.dbg_base.specs.declared.elimination.Cause.{Cause}
use Rattle.dbg_base.specs.declared.elimination.Cause.TheVariants.{FalseAt, Passed}
use Rattle.dbg_base.specs.Trees.{Program}
use Rattle.dbg_base.specs.Histories.{History}
use Rattle.dbg_base.specs.Clocks.{IsClock}
use Rattle.dbg_base.specs.Predicates.{Conjunct, is_true}
use Rattle.dbg_base.specs.Frontiers.{choices_at}

-- process p has a conjunct that is false after its n-th choice
abbrev pub is_ruled_out : Program → History → List Conjunct → ℕ → ℕ → Bool
is_ruled_out P H conjuncts p n = list_any (λ conjunct. (conjunct.process == p) && not (is_true P H conjunct n)) conjuncts

-- the component of process p in the clock of process q after its n-th choice
pub record IsPart (P : Program) (H : History) (q n p count : ℕ) : Type 0 where
  pub clock : List ℕ
  pub is : IsClock P H q n clock
  pub part : slice_index clock p ≡ count

-- Why a process moves from one component to another. Either its conjunct is false there, and the next component is one more. Or the new
-- component is greater, and is a component of the clock of a process, after an existing choice that the tuple includes.
abbrev pub IsCaused : Program → History → List Conjunct → List ℕ → ℕ → ℕ → ℕ → Cause → Type 0
IsCaused P H conjuncts tuple p from to FalseAt = (is_ruled_out P H conjuncts p from ≡ true) × (to ≡ from + 1)
IsCaused P H conjuncts tuple p from to (Passed q n) =
    (q.0 < length H) × (n ≤ slice_index tuple q.0) × (n ≤ choices_at H q.0) × IsPart P H q.0 n p to × (from < to)

-- The elimination is justified at the tuple: its process exists and has this component, which is at most its number of choices.
pub record IsElimination (P : Program) (H : History) (conjuncts : List Conjunct) (tuple : List ℕ) (step : Elimination) : Type 0 where
  pub here : step.pid.0 < length H
  pub from : step.from ≡ slice_index tuple step.pid.0
  pub within : step.from ≤ choices_at H step.pid.0
  pub caused : IsCaused P H conjuncts tuple step.pid.0 step.from step.to step.cause

-- the tuple after the step
abbrev pub eliminated : List ℕ → Elimination → List ℕ
eliminated tuple step = slice_set tuple step.pid.0 step.to

-- the tuple after all of these
abbrev pub reach_from : List ℕ → List Elimination → List ℕ
reach_from tuple [] = tuple
reach_from tuple (step ∷ steps) = reach_from (eliminated tuple step) steps

-- each step is justified after those before it
abbrev pub IsSoundFrom : Program → History → List Conjunct → List ℕ → List Elimination → Type 0
IsSoundFrom P H conjuncts tuple [] = Unit {0}
IsSoundFrom P H conjuncts tuple (step ∷ steps) =
    IsElimination P H conjuncts tuple step × IsSoundFrom P H conjuncts (eliminated tuple step) steps

-- the tuple with which the search begins
abbrev pub zeros : History → List ℕ
zeros H = replicate (length H) 0

abbrev pub IsSound : Program → History → List Conjunct → List Elimination → Type 0
IsSound P H conjuncts steps = IsSoundFrom P H conjuncts (zeros H) steps

abbrev pub reach : History → List Elimination → List ℕ
reach H steps = reach_from (zeros H) steps

-- the most steps of a search: the number of all choices, plus one for each process
abbrev pub most_steps : History → ℕ
most_steps H = sum (map (λ choices. length choices + 1) H)
