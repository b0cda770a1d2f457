-- Lists of the positions of events, by what they did.
use Rattle.std.specs.Prelude.{◌≡◌, ℕ, ◌+◌, ◌-◌, ◌*◌, ◌^◌, ◌<◌, ◌≤◌, ◌==◌, Bool, true, List, [], length, take, min}
use Rattle.std.specs.Prelude.{slice_index, slice_index_or}
use Rattle.std.specs.List.{count_by}
use Rattle.cut_core.specs.declared.kind.Kind.{Kind}
use Rattle.cut_core.specs.declared.kind.Kind.TheVariants.{Sent, Got, Local}

-- a list of positions, and how many more fit without allocation
pub record PlacesState : Type 0 where
  pub places : List ℕ
  pub room : ℕ

-- the position, from 0, of the passing event before which k events pass
pub record IsPlace (p : Kind → Bool) (kinds : List Kind) (k place : ℕ) : Type 0 where
  pub within : place < length kinds
  pub passes : (d : Kind) → p (slice_index_or kinds place d) ≡ true
  pub count : count_by p (take place kinds) ≡ k

-- the positions of all passing events, in order
abbrev pub IsPlaces : (Kind → Bool) → List Kind → List ℕ → Type 0
IsPlaces p kinds places = (length places ≡ count_by p kinds)
    × ((k : ℕ) → k < length places → IsPlace p kinds k (slice_index places k))

-- the number of the list for a kind, if there are so many lists
abbrev pub own_list : Kind → ℕ
own_list Local = 0
own_list (Sent to) = to.0 * 2 + 1
own_list (Got from) = from.0 * 2 + 2

-- whether list s is for this kind; the last list is for all kinds without a list of their own
abbrev pub is_in : ℕ → ℕ → Kind → Bool
is_in last s kind = min (own_list kind) last == s

-- each event is in its list
abbrev pub AreListed : List Kind → List (List ℕ) → Type 0
AreListed kinds lists = (0 < length lists)
    × ((s : ℕ) → s < length lists → IsPlaces (is_in (length lists - 1) s) kinds (slice_index_or lists s []))

-- so many more events fit without allocation, and all of them can be counted
pub record HasRoom (kinds : List Kind) (spare : ℕ) (rooms : List ℕ) (room : ℕ) : Type 0 where
  pub counted : length kinds + room < 2 ^ 32
  pub events : room ≤ spare
  pub lists : (s : ℕ) → s < length rooms → room ≤ slice_index rooms s
