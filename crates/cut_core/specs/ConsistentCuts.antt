-- Cuts: a number of events of each process.
use Rattle.std.specs.Prelude.{◌≡◌, ◌≢◌, ℕ, ◌<◌, ◌≤◌, List, [], length, map, slice_index, slice_index_or}
use Rattle.dbg_base.specs.Cuts.{IsAtMost}
use Rattle.cut_core.specs.declared.kind.Kind.{Kind}
use Rattle.cut_core.specs.Tallies.{sent_by, got_by}

-- A cut has one count for each process, at most its number of events. It is consistent if no process has received more messages from
-- another than that one has sent to it.
pub record IsConsistentCut (kinds : List (List Kind)) (cut : List ℕ) : Type 0 where
  pub sizes : length cut ≡ length kinds
  pub within : (p : ℕ) → slice_index cut p ≤ length (slice_index_or kinds p [])
  pub causes : (i j : ℕ) → i ≢ j → got_by kinds j i (slice_index cut j) ≤ sent_by kinds i j (slice_index cut i)

-- one count for each process, at most its number of events
abbrev pub IsWithin : List (List Kind) → List ℕ → Type 0
IsWithin kinds cut = (length cut ≡ length kinds) × ((p : ℕ) → slice_index cut p ≤ length (slice_index_or kinds p []))

-- The counts after are at most those before, and at least those of each consistent cut that is at most those before.
pub record IsLowered (kinds : List (List Kind)) (before after : List ℕ) : Type 0 where
  pub within : IsWithin kinds after
  pub below : IsAtMost after before
  pub greatest : (c : List ℕ) → IsConsistentCut kinds c → IsAtMost c before → IsAtMost c after

-- process j has received more from process i than that one has sent to it
abbrev pub HasOrphan : List (List Kind) → List ℕ → ℕ → ℕ → Type 0
HasOrphan kinds cut i j = (i ≢ j) × (sent_by kinds i j (slice_index cut i) < got_by kinds j i (slice_index cut j))

-- the cut of all events
abbrev pub places : List (List Kind) → List ℕ
places kinds = map length kinds
