-- The recorded calls of seats, found in a journal entry by entry.
use Rattle.std.specs.Prelude.{◌≡◌, ◌==◌, ℕ, ◌+◌, ◌<◌, List, length, Some, slice_get, slice_index_or}
use Rattle.std.specs.Bool.{MatchBool}
use Rattle.dbg_base.specs.Journals.{Entry}
use Rattle.dbg_desk.specs.Desks.{SeatState}
use Rattle.dbg_desk.specs.Settling.{as_own}

-- the entry is the seat's recorded call after the ones that were found before, or it is of another seat
abbrev pub IsFound : Entry → SeatState → ℕ → ℕ → Type 0
IsFound entry seat before after =
    MatchBool (entry.seat == seat.number) ((slice_get seat.own before ≡ Some (as_own entry)) × (after ≡ before + 1)) (after ≡ before)

-- the entry is of this seat, which has this number, and is not its next recorded call
pub record IsOther (entry : Entry) (seat : SeatState) (before named : ℕ) : Type 0 where
  pub number : seat.number ≡ named
  pub mine : entry.seat ≡ seat.number
  pub other : ¬ (slice_get seat.own before ≡ Some (as_own entry))

abbrev pub AreFound : Entry → List SeatState → List ℕ → List ℕ → Type 0
AreFound entry seats before after =
    (place : ℕ) (d : SeatState) → place < length seats
    → IsFound entry (slice_index_or seats place d) (slice_index_or before place 0) (slice_index_or after place 0)

pub record HasOtherNext (entry : Entry) (seats : List SeatState) (before : List ℕ) (named : ℕ) : Type 0 where
  pub place : ℕ
  pub seat : SeatState
  pub here : slice_get seats place ≡ Some seat
  pub other : IsOther entry seat (slice_index_or before place 0) named

-- each seat has recorded as many calls as were found
abbrev pub HaveEnded : List SeatState → List ℕ → Type 0
HaveEnded seats found =
    (place : ℕ) (d : SeatState) → place < length seats → length (slice_index_or seats place d).own ≡ slice_index_or found place 0

-- one of them has recorded more or fewer; it has this number
pub record HasMore (seats : List SeatState) (found : List ℕ) (named : ℕ) : Type 0 where
  pub place : ℕ
  pub seat : SeatState
  pub here : slice_get seats place ≡ Some seat
  pub number : seat.number ≡ named
  pub more : ¬ (length seat.own ≡ slice_index_or found place 0)
