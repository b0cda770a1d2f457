-- The calls of a session with their answers, and which of the commands count.
use Rattle.std.specs.Prelude.{◌≡◌, ◌⊎◌, ℕ, ◌-◌, ◌<◌, ◌≤◌, ◌==◌, List, [], ◌∷◌, ◌++◌, length, Option, Some, None, slice_get}
use Rattle.std.specs.Bool.{MatchBool}
use Rattle.dbg_base.specs.declared.said.Done.TheVariants.{Plain}
use Rattle.dbg_base.specs.declared.said.Reply.{Reply}
use Rattle.dbg_base.specs.declared.said.Said.{Said}
use Rattle.dbg_base.specs.declared.said.Said.TheVariants.{Accepted, Refused}
use Rattle.dbg_base.specs.declared.refusal.Refusal.TheVariants.{NothingBack, OtherSeat, JournalFull, Memory}
use Rattle.dbg_base.specs.declared.limits.TheConstants.{CALLS}
use Rattle.dbg_base.specs.Trees.{Program}
use Rattle.dbg_base.specs.Reversal.{without_back}
use Rattle.dbg_base.specs.Calls.{Order, Call, Give, Back, Ask}
use Rattle.dbg_base.specs.ModelStates.{ModelState, opening}
use Rattle.dbg_base.specs.Acts.{Accepts, Follows}
use Rattle.dbg_base.specs.Views.{Answers}

-- a call of a seat, with its answer
pub record Entry : Type 0 where
  pub seat : ℕ
  pub call : Call
  pub said : Said

-- the calls that were made so far, in their order
abbrev pub Journal : Type 0
Journal = List Entry

-- an order that was accepted, and the seat that gave it
pub record Given : Type 0 where
  pub seat : ℕ
  pub order : Order

-- The orders that count after one more call, given those before it. An accepted order counts. An accepted `back` removes the last order
-- that counts. Queries and refused calls change nothing.
abbrev pub counting : List Given → ℕ → Call → Said → List Given
counting given seat (Give order) (Accepted reply) = given ++ record { seat = seat; order = order } ∷ []
counting given seat Back (Accepted reply) = without_back given
counting given seat call said = given

abbrev pub effective_from : List Given → Journal → List Given
effective_from given [] = given
effective_from given (entry ∷ J) = effective_from (counting given entry.seat entry.call entry.said) J

-- the orders of a journal that were accepted and are not taken back
abbrev pub effective : Journal → List Given
effective J = effective_from [] J

-- These orders lead from M to M', one after the other: each is accepted in the state that those before it left.
abbrev pub Leads : Program → List Given → ModelState → ModelState → Type 0
Leads P [] M M' = M' ≡ M
Leads P (given ∷ others) M M' =
    (reply : Reply) × (between : ModelState) × Follows P given.order M (Accepted reply) between × Leads P others between M'

-- the state of the session if these orders count: they alone lead to it from the opening state
abbrev pub LeadsTo : Program → List Given → ModelState → Type 0
LeadsTo P given M = Leads P given (opening P) M

-- the last of these orders
abbrev pub last_given : List Given → Option Given
last_given given = slice_get given (length given - 1)

-- The answer to a seat that gives `back`. It is accepted if there is a last order that counts and the same seat gave it. The state is then
-- as if that order had never been given.
abbrev pub AnswersBack : Program → List Given → ℕ → Option Given → Said → Type 0
AnswersBack P given seat None said = said ≡ Refused NothingBack
AnswersBack P given seat (Some last) said =
    MatchBool (last.seat == seat) ((M : ModelState) × LeadsTo P (without_back given) M × Accepts P Plain said M)
    (said ≡ Refused (OtherSeat last.seat))

-- the answer that is due to a seat's call, if these orders count
abbrev pub IsDue : Program → List Given → ℕ → Call → Said → Type 0
IsDue P given seat (Give order) said = (M after : ModelState) × LeadsTo P given M × Follows P order M said after
IsDue P given seat Back said = AnswersBack P given seat (last_given given) said
IsDue P given seat (Ask query) said = (M : ModelState) × LeadsTo P given M × Answers P M query said

-- A seat's call was entered in the journal J, with the answer that is due.
pub record Enters (P : Program) (J : Journal) (seat : ℕ) (call : Call) (said : Said) (J' : Journal) : Type 0 where
  pub due : IsDue P (effective J) seat call said
  pub entered : J' ≡ J ++ record { seat = seat; call = call; said = said } ∷ []

-- it was refused as out of memory, and not entered
pub record Misses (J : Journal) (said : Said) (J' : Journal) : Type 0 where
  pub reported : said ≡ Refused Memory
  pub left : J' ≡ J

-- it was refused and not entered, since the journal has reached the limit of calls
pub record Overflows (J : Journal) (said : Said) (J' : Journal) : Type 0 where
  pub full : length J ≡ CALLS
  pub reported : said ≡ Refused JournalFull
  pub left : J' ≡ J

-- what a seat's call makes of a journal that has room for so many calls
abbrev pub Makes : Program → Journal → ℕ → Call → Said → Journal → Type 0
Makes P J seat call said J' =
    ((length J < CALLS) × (Enters P J seat call said J' ⊎ Misses J said J')) ⊎ Overflows J said J'

-- each of these calls has the answer that is due after those before it; the orders `given` count before the first one
abbrev pub AreDue : Program → List Given → Journal → Type 0
AreDue P given [] = Unit {0}
AreDue P given (entry ∷ J) =
    IsDue P given entry.seat entry.call entry.said × AreDue P (counting given entry.seat entry.call entry.said) J

-- A journal that a single caller could have made, one call after the other: each call has the answer that is due after those before it.
pub record IsLegal (P : Program) (J : Journal) : Type 0 where
  pub few : length J ≤ CALLS
  pub due : AreDue P [] J
