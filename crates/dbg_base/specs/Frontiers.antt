-- How far the search for a cut gets: for each process the first local state that is not ruled out, or one past its last.
use Rattle.std.specs.Prelude.{◌≡◌, ℕ, ◌+◌, ◌<◌, ◌≤◌, List, [], ◌∷◌, true, length, min, nat_le, if◌then◌else◌, slice_index, slice_index_or}
use Rattle.std.specs.List.{AllByRecursion}
use Rattle.dbg_base.specs.declared.said.Head.{Head}
use Rattle.dbg_base.specs.declared.said.Head.TheVariants.{At, Past}
use Rattle.dbg_base.specs.Trees.{Program}
use Rattle.dbg_base.specs.Histories.{History}
use Rattle.dbg_base.specs.Cuts.{IsAtMost}
use Rattle.dbg_base.specs.Clocks.{IsClock}
use Rattle.dbg_base.specs.Predicates.{Conjunct, is_true}

-- how many choices process p has
abbrev pub choices_at : History → ℕ → ℕ
choices_at H p = length (slice_index_or H p [])

-- A tuple with one component for each process, at most one more than its choices, in which nothing is left to rule out. Each conjunct is
-- true at the component of its process, if that is at most its number of choices. Each component is at least that of the clock of every
-- process at its own component, or at its last choice if that comes first.
pub record IsSettled (P : Program) (H : History) (conjuncts : List Conjunct) (tuple : List ℕ) : Type 0 where
  pub sizes : length tuple ≡ length H
  pub within : (p : ℕ) → slice_index tuple p ≤ choices_at H p + 1
  pub all : AllByRecursion
      (λ conjunct. slice_index tuple conjunct.process ≤ choices_at H conjunct.process
      → is_true P H conjunct (slice_index tuple conjunct.process) ≡ true) conjuncts
  pub clocks : (q : ℕ) (cut : List ℕ) → q < length H → IsClock P H q (min (slice_index tuple q) (choices_at H q)) cut
      → IsAtMost cut tuple

-- The frontier is the least such tuple.
pub record IsFrontier (P : Program) (H : History) (conjuncts : List Conjunct) (tuple : List ℕ) : Type 0 where
  pub settled : IsSettled P H conjuncts tuple
  pub least : (other : List ℕ) → IsSettled P H conjuncts other → IsAtMost tuple other

-- a component as a query shows it, if the process has so many choices
abbrev pub head_at : ℕ → ℕ → Head
head_at count n = if nat_le n count then At n else Past

abbrev pub heads_of : History → List ℕ → List Head
heads_of [] tuple = []
heads_of (choices ∷ H) [] = []
heads_of (choices ∷ H) (n ∷ tuple) = head_at (length choices) n ∷ heads_of H tuple
