-- Cuts of a history: a number of choices of each process.
use Rattle.std.specs.Prelude.{◌≡◌, ◌≢◌, ℕ, ◌≤◌, List, [], length, slice_index, slice_index_or}
use Rattle.dbg_base.specs.Trees.{Program}
use Rattle.dbg_base.specs.Histories.{History}
use Rattle.dbg_base.specs.SystemStates.{cut_lines}
use Rattle.dbg_base.specs.Counts.{sent, got}

-- A cut has one count for each process, at most its number of choices. It is consistent if no process has received more messages from
-- another than that one has sent to it.
pub record IsConsistent (P : Program) (H : History) (cut : List ℕ) : Type 0 where
  pub sizes : length cut ≡ length H
  pub within : (p : ℕ) → slice_index cut p ≤ length (slice_index_or H p [])
  pub causes : (i j : ℕ) → i ≢ j → got P H j i (slice_index cut j) ≤ sent P H i j (slice_index cut i)

-- the history up to the cut
abbrev pub history_at : History → List ℕ → History
history_at H cut = cut_lines H cut

-- the first cut is at most the second, for each process
abbrev pub IsAtMost : List ℕ → List ℕ → Type 0
IsAtMost c d = (p : ℕ) → slice_index c p ≤ slice_index d p
