-- The clock of a local state: how many choices of each process are in its causal past.
use Rattle.std.specs.Prelude.{ℕ, ◌≤◌, List, slice_index}
use Rattle.dbg_base.specs.Trees.{Program}
use Rattle.dbg_base.specs.Histories.{History}
use Rattle.dbg_base.specs.Cuts.{IsConsistent, IsAtMost}

-- The clock of process p at its n-th choice: the least consistent cut with at least n choices of p.
pub record IsClock (P : Program) (H : History) (p n : ℕ) (cut : List ℕ) : Type 0 where
  pub consistent : IsConsistent P H cut
  pub reaches : n ≤ slice_index cut p
  pub least : (other : List ℕ) → IsConsistent P H other → n ≤ slice_index other p → IsAtMost cut other
