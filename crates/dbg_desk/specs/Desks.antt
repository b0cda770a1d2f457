-- What contracts see of a journal under its lock, and of a seat, and how a seat's call changes both.
use Rattle.std.specs.Prelude.{◌≡◌, ◌⊎◌, ℕ, zero, suc, ◌-◌, ◌<◌, ◌≤◌, Bool, true, false, List, [], ◌∷◌, ◌++◌, length, slice_get}
use Rattle.std.specs.Prelude.{Option, Some, None, Result, Ok, Err}
use Rattle.std.specs.Bool.{MatchBool}
use Rattle.std.specs.List.{AllByRecursion}
use Rattle.dbg_base.specs.declared.said.Said.{Said}
use Rattle.dbg_base.specs.declared.said.Said.TheVariants.{Refused}
use Rattle.dbg_base.specs.declared.refusal.Refusal.{Refusal}
use Rattle.dbg_base.specs.declared.refusal.Refusal.TheVariants.{JournalFull, Memory}
use Rattle.dbg_base.specs.Trees.{Program}
use Rattle.dbg_base.specs.Calls.{Call, call_of}
use Rattle.dbg_base.specs.ModelStates.{ModelState, IsHaltPlace}
use Rattle.dbg_base.specs.Journals as model
use Rattle.dbg_base.specs.Journals.{Journal, LeadsTo, IsLegal, effective}
use Rattle.dbg_records.specs.Small.{small_call_of, small_said_of}
use Rattle.dbg_board.specs.declared.glance.Glance.{Glance}
use Rattle.dbg_board.specs.Boards.{BoardId, Listing}
use Rattle.dbg_board.specs.Pairs.{Begins}
use Rattle.dbg_session.specs.Sessions.{SessionState}
use Rattle.dbg_desk.specs.declared.entry.Entry as entry
use Rattle.dbg_desk.specs.declared.entry.RecordedCall as own

-- an entry of the journal, as an entry of the model
abbrev pub entry_of : entry.Entry → model.Entry
entry_of kept = record { seat = kept.seat; call = call_of kept.call; said = kept.said }

-- a call of a seat's own, and its answer
pub record RecordedCall : Type 0 where
  pub call : Call
  pub said : Said

abbrev pub own_of : own.RecordedCall → RecordedCall
own_of kept = record { call = small_call_of kept.call; said = small_said_of kept.said }

-- the calls that were entered, and what was published of them
pub record Standing : Type 0 where
  pub journal : Journal
  pub pairs : List Glance

-- a seat's number, its own calls, and what it has seen of the board
pub record SeatState : Type 0 where
  pub number : ℕ
  pub own : List RecordedCall
  pub seen : List Glance

-- the board of a run that was not started
abbrev pub no_board : BoardId
no_board = record { words = 0; slots = 0; views_name = 0; atom = 0; block = 0; offset = 0; slot_names = [] }

-- the run has so many seats, and this is the number of one of them
abbrev pub IsAmong : ℕ → ℕ → Type 0
IsAmong seats number = (0 < number) × (number ≤ seats)

-- What the board shows after the journal J: how many calls it has, and the position of the breakpoint that halts the session then, or 0.
pub record Shows (P : Program) (J : Journal) (pair : Glance) : Type 0 where
  pub calls : pair.calls ≡ length J
  pub state : ModelState
  pub leads_to : LeadsTo P (effective J) state
  pub halt : IsHaltPlace P state pair.halt

-- After the journal J these calls were made, and for each of them one of these pairs was published.
abbrev pub ArePairs : Program → Journal → Journal → List Glance → Type 0
ArePairs P J [] [] = Unit {0}
ArePairs P J (entry ∷ others) (pair ∷ pairs) =
    Shows P (J ++ entry ∷ []) pair × ArePairs P (J ++ entry ∷ []) others pairs
ArePairs P J others pairs = ⊥

-- The value under the lock: the journal is legal and names only the run's seats, the session is in the state to which it leads, and all of
-- it was published.
pub record IsLocked (P : Program) (seats : ℕ) (session : SessionState) (J : Journal) (pairs : List Glance) : Type 0 where
  pub program : session.program ≡ P
  pub legal : IsLegal P J
  pub effective : session.effective ≡ effective J
  pub leads_to : LeadsTo P (model.effective J) session.state
  pub among : AllByRecursion (λ entry. IsAmong seats entry.seat) J
  pub shown : ArePairs P [] J pairs

-- A seat of a run has one part of its ledger, which counts its own calls. It has seen at least as many pairs of the run's board.
pub record IsSeat (board : BoardId) (seats number own parts amount : ℕ) (view : Listing) : Type 0 where
  pub among : IsAmong seats number
  pub one : parts ≡ 1
  pub counts : amount ≡ own
  pub of : view.board ≡ board
  pub seen : own ≤ length view.pairs

-- A seat's call was entered: it is the last of the seat's own calls, it was published, and the seat has seen all that was published.
pub record IsNoted (P : Program) (old : Standing) (seat : SeatState) (call : Call) (said : Said) (new : Standing)
    (after : SeatState) : Type 0 where
  pub number : after.number ≡ seat.number
  pub own : after.own ≡ seat.own ++ record { call = call; said = said } ∷ []
  pub pair : Glance
  pub shows : Shows P new.journal pair
  pub shown : new.pairs ≡ old.pairs ++ pair ∷ []
  pub seen : after.seen ≡ new.pairs
  pub begins : Begins seat.seen after.seen

-- The state after a seat's call: the call was entered and published, or nothing changed.
abbrev pub Notes : Program → Standing → SeatState → Call → Said → Standing → SeatState → Type 0
Notes P old seat call said new after =
    ((length new.journal ≡ suc (length old.journal)) × IsNoted P old seat call said new after)
    ⊎ ((new ≡ old) × (after ≡ seat))

-- A seat's call was entered: it is the last of the seat's own calls.
pub record IsRecorded (seat : SeatState) (call : Call) (said : Said) (after : SeatState) : Type 0 where
  pub number : after.number ≡ seat.number
  pub own : after.own ≡ seat.own ++ record { call = call; said = said } ∷ []
  pub begins : Begins seat.seen after.seen

-- the answer to a call that is not entered: memory ran out, or the journal is full
abbrev pub is_left_out : Said → Bool
is_left_out (Refused Memory) = true
is_left_out (Refused JournalFull) = true
is_left_out said = false

-- the state of the seat after its call
abbrev pub Records : SeatState → Call → Said → SeatState → Type 0
Records seat call said after = MatchBool (is_left_out said) (after ≡ seat) (IsRecorded seat call said after)

-- the entries with one more at the end, of this call
pub record IsLonger (old new : List entry.Entry) (seat : ℕ) (call : Call) (said : Said) : Type 0 where
  pub last : entry.Entry
  pub pushed : new ≡ old ++ last ∷ []
  pub of_seat : last.seat ≡ seat
  pub of_call : call_of last.call ≡ call
  pub of_said : last.said ≡ said

-- the seat's own calls with one more at the end
pub record IsOneMore (old new : List own.RecordedCall) (call : Call) (said : Said) : Type 0 where
  pub last : own.RecordedCall
  pub pushed : new ≡ old ++ last ∷ []
  pub of_call : small_call_of last.call ≡ call
  pub of_said : small_said_of last.said ≡ said

-- the answer in this entry, if there is one
abbrev pub said_in : Option model.Entry → Said
said_in None = Refused Memory
said_in (Some last) = last.said

-- the answer to the last call of the journal
abbrev pub last_said : Journal → Said
last_said J = said_in (slice_get J (length J - 1))

-- the answer to a call after which this is the journal: that of the last entry, or why the call was not entered
abbrev pub said_noted : Result (Unit {0}) Refusal → Journal → Said
said_noted (Ok done) J = last_said J
said_noted (Err refusal) J = Refused refusal

-- a seat that made no call yet
abbrev pub new_seat : ℕ → SeatState
new_seat number = record { number = number; own = []; seen = [] }

-- so many seats, numbered from 1
abbrev pub new_seats : ℕ → List SeatState
new_seats zero = []
new_seats (suc n) = new_seats n ++ new_seat (suc n) ∷ []
