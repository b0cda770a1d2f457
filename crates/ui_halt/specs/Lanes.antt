-- Where a part of a predicate is true: after each number of events of its process, from the start on.
use Rattle.std.specs.Prelude.{◌≡◌, ℕ, ◌-◌, ◌<◌, ◌≤◌, Bool, true, false, List, Option, MatchOption, slice_index_or}

-- whether it is true after n events
abbrev pub true_at : List Bool → ℕ → Bool
true_at truths n = slice_index_or truths n false

-- It is true after each number of events from this one up to a second one, and the first is the least such number.
pub record IsSince (truths : List Bool) (count since : ℕ) : Type 0 where
  pub within : since ≤ count
  pub holds : (n : ℕ) → since ≤ n → n ≤ count → true_at truths n ≡ true
  pub least : 1 ≤ since → true_at truths (since - 1) ≡ false

-- the same, if it is true after the second number of events
abbrev pub FindsSince : List Bool → ℕ → Option ℕ → Type 0
FindsSince truths count found = MatchOption found (true_at truths count ≡ false) (IsSince truths count)

-- It is true after n events, and after no more than that below the bound.
pub record IsLastTrue (truths : List Bool) (below n : ℕ) : Type 0 where
  pub within : n < below
  pub holds : true_at truths n ≡ true
  pub last : (k : ℕ) → n < k → k < below → true_at truths k ≡ false

-- after fewer events than the bound it is not true
abbrev pub IsNeverTrue : List Bool → ℕ → Type 0
IsNeverTrue truths below = (k : ℕ) → k < below → true_at truths k ≡ false

abbrev pub FindsLast : List Bool → ℕ → Option ℕ → Type 0
FindsLast truths below found = MatchOption found (IsNeverTrue truths below) (IsLastTrue truths below)
