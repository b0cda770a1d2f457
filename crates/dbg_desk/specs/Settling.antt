-- The recorded calls of seats, compared with the journal of all calls.
use Rattle.std.specs.Prelude.{◌≡◌, ◌==◌, ℕ, List, [], ◌∷◌, length, Some, slice_get, if◌then◌else◌}
use Rattle.std.specs.List.{AllByRecursion, flat_map, sum_by}
use Rattle.dbg_base.specs.Trees.{Program}
use Rattle.dbg_base.specs.Journals.{Entry, Journal, IsLegal}
use Rattle.dbg_desk.specs.Desks.{RecordedCall, SeatState, IsAmong}

-- an entry, as a recorded call of its seat
abbrev pub as_own : Entry → RecordedCall
as_own entry = record { call = entry.call; said = entry.said }

-- the same, if it is of the seat of this number
abbrev pub own_at : ℕ → Entry → List RecordedCall
own_at number entry = if entry.seat == number then as_own entry ∷ [] else []

-- the calls of that seat in a journal, in order
abbrev pub own_in : Journal → ℕ → List RecordedCall
own_in J number = flat_map (own_at number) J

-- the seat has recorded exactly the journal's calls of it, in order
abbrev pub IsKeptIn : Journal → SeatState → Type 0
IsKeptIn J seat = seat.own ≡ own_in J seat.number

-- one of these seats has this number, and has recorded other calls
pub record HasOther (J : Journal) (seats : List SeatState) (named : ℕ) : Type 0 where
  pub place : ℕ
  pub seat : SeatState
  pub here : slice_get seats place ≡ Some seat
  pub number : seat.number ≡ named
  pub other : ¬ IsKeptIn J seat

-- a journal that a single caller could have made, with calls of the run's seats only
pub record IsRunJournal (P : Program) (seats : ℕ) (J : Journal) : Type 0 where
  pub legal : IsLegal P J
  pub among : AllByRecursion (λ entry. IsAmong seats entry.seat) J

-- There is such a journal, with so many calls, and each of these seats has recorded exactly its calls in it, in order.
pub record Settles (P : Program) (many : ℕ) (seats : List SeatState) (reported : ℕ) : Type 0 where
  pub journal : Journal
  pub of_run : IsRunJournal P many journal
  pub calls : reported ≡ length journal
  pub kept : AllByRecursion (IsKeptIn journal) seats

-- There is such a journal, and the seat of this number has recorded other calls than its calls in it.
pub record Differs (P : Program) (many : ℕ) (seats : List SeatState) (number : ℕ) : Type 0 where
  pub journal : Journal
  pub of_run : IsRunJournal P many journal
  pub has : HasOther journal seats number

-- how many of these seats have this number
abbrev pub times : ℕ → List SeatState → ℕ
times number seats = sum_by (λ seat. if number == seat.number then 1 else 0) seats

-- all seats of a run, each once
abbrev pub AreAll : ℕ → List SeatState → Type 0
AreAll many seats = (number : ℕ) → IsAmong many number → times number seats ≡ 1

-- how many calls these seats have recorded together
abbrev pub own_calls : List SeatState → ℕ
own_calls seats = sum_by (λ seat. length seat.own) seats
