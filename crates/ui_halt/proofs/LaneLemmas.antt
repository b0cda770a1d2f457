-- Since when a part is true.
use Rattle.std.proofs.Common.{◌≡◌, ℕ, ◌≤◌, Bool, true, List}
use Rattle.ui_halt.specs.Lanes.{true_at}

-- it is true after each number of events from this one up to a second one
pub record IsTrueFrom (truths : List Bool) (count since : ℕ) : Type 0 where
  pub within : since ≤ count
  pub holds : (n : ℕ) → since ≤ n → n ≤ count → true_at truths n ≡ true
