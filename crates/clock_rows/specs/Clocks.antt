-- The rows of each process, and the row of its next event.
use Rattle.std.specs.Prelude.{◌≡◌, ℕ, zero, suc, ◌+◌, ◌-◌, ◌*◌, ◌/◌, ◌<◌, ◌≤◌, List, [], ◌∷◌, length, take, drop, max}
use Rattle.std.specs.Prelude.{slice_index_or, slice_set}

-- for each process its rows, the first one zeros, and how many more fit without allocation
pub record ClocksState : Type 0 where
  pub rows : List (List (List ℕ))
  pub room : List ℕ

-- the same for one process, and how many counts a row has
pub record HistoryState : Type 0 where
  pub width : ℕ
  pub rows : List (List ℕ)
  pub room : ℕ

-- the larger of each two components
abbrev pub join : List ℕ → List ℕ → List ℕ
join [] other = []
join (m ∷ row) [] = []
join (m ∷ row) (n ∷ other) = max m n ∷ join row other

-- the join, with the component `own` one more
abbrev pub next_row : ℕ → List ℕ → List ℕ → List ℕ
next_row own row joined = slice_set (join row joined) own (slice_index_or (join row joined) own 0 + 1)

abbrev pub last_row : List (List ℕ) → List ℕ
last_row rows = slice_index_or rows (length rows - 1) []

-- the first k pieces of a list, each of n elements
abbrev pub pieces : ℕ → ℕ → List ℕ → List (List ℕ)
pieces n zero list = []
pieces n (suc k) list = take n list ∷ pieces n k (drop n list)

-- `len` counts are whole rows, at least one, of `width` counts each
pub record AreWholeRows (width len : ℕ) : Type 0 where
  pub wide : 0 < width
  pub has_first : width ≤ len
  pub whole : len ≡ len / width * width
