-- The function that makes the commands of a session, the seats that give them, and the call that was entered last.
use Rattle.std.specs.Prelude.{◌≡◌, ℕ, suc, ◌-◌, ◌<◌, Bool, true, false, List, length, slice_get, slice_index_or, Option, Some, None, Result}
use Rattle.dbg_base.specs.declared.said.Said.{Said}
use Rattle.dbg_base.specs.declared.said.Said.TheVariants as said
use Rattle.dbg_base.specs.declared.refusal.Refusal.{Refusal}
use Rattle.dbg_base.specs.declared.limits.TheConstants.{SEATS}
use Rattle.dbg_base.specs.Trees.{Program}
use Rattle.dbg_base.specs.Calls.{Order, order_of}
use Rattle.dbg_base.specs.Journals.{Entry, Journal}
use Rattle.dbg_base.specs.Fits.{FitsCall}
use Rattle.dbg_desk.specs.Desks.{SeatState}
use Rattle.shell_serve.specs.Making.{IsMade}
use Rattle.dbg_command.specs.declared.givable.Givable.{Givable}
use Rattle.shell_serve.specs.declared.source.Answer.{Answer}
use Rattle.shell_serve.specs.declared.source.Answer.TheVariants.{Nothing, Refused, Accepted, Halted, Ended}

-- the function makes a command of each plan
abbrev pub IsMaker : {C : Type 0} → (Givable → Result C Refusal → Type 0) → (C → Type 0) → (C → Order) → Type 0
IsMaker {C} post IsFresh order = (given : Givable) (made : Result C Refusal) → post given made
    → IsMade IsFresh order (order_of given.plan) made

-- these are all seats, in the order of their numbers, from 1 on
pub record AreAllSeats (seats : List SeatState) : Type 0 where
  pub all : length seats ≡ SEATS
  pub numbered : (i : ℕ) (other : SeatState) → i < SEATS → (slice_index_or seats i other).number ≡ suc i

-- this is the last entry of the journal
abbrev pub IsLast : Journal → Entry → Type 0
IsLast J entry = slice_get J (length J - 1) ≡ Some entry

-- the journal has a last entry, whose answer fits its call
pub record HasLast (P : Program) (J : Journal) : Type 0 where
  pub some : 0 < length J
  pub fits : (entry : Entry) → IsLast J entry → FitsCall P entry.call entry.said

-- how a call was answered that halts the session, or does not
abbrev pub accepted_with : {A : Type 0} → Option A → Answer
accepted_with None = Accepted
accepted_with (Some name) = Halted

-- how a call was answered to which this was said
abbrev pub answer_of : Said → Answer
answer_of (said.Refused refusal) = Refused
answer_of (said.Answered shown) = Accepted
answer_of (said.Accepted reply) = accepted_with reply.halted

-- it is the answer to a line that ends the session
abbrev pub is_end : Answer → Bool
is_end Ended = true
is_end Nothing = false
is_end Refused = false
is_end Accepted = false
is_end Halted = false
