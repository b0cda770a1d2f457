-- What contracts see of a session, and what its stack of commands keeps.
use Rattle.std.specs.Prelude.{◌≡◌, ℕ, List, [], ◌∷◌, Some}
use Rattle.dbg_base.specs.declared.said.Reply.{Reply}
use Rattle.dbg_base.specs.declared.said.Said.TheVariants.{Accepted}
use Rattle.dbg_base.specs.Trees.{Program}
use Rattle.dbg_base.specs.Calls.{Order}
use Rattle.dbg_base.specs.ModelStates.{ModelState, opening}
use Rattle.dbg_base.specs.Acts.{Follows}
use Rattle.dbg_base.specs.Journals.{Given, last_given}
use Rattle.dbg_command.specs.Tables.{TableState, IsTableOf, state_of}
use Rattle.dbg_session.specs.declared.session.Stacked.{Stacked}

-- the program, the orders that count, and the state to which they lead
pub record SessionState : Type 0 where
  pub program : Program
  pub effective : List Given
  pub state : ModelState

-- the last order that counts is one of this seat
abbrev pub GaveLast : List Given → ℕ → Type 0
GaveLast given seat = (order : Order) × (last_given given ≡ Some (record { seat = seat; order = order }))

-- The order led to M from the state before, and can be undone there.
pub record GoesBack (P : Program) (MayGoBack : Program → ModelState → Type 0) (before : ModelState → ModelState) (order : Order)
    (M : ModelState) : Type 0 where
  pub may : MayGoBack P M
  pub reply : Reply
  pub acts : Follows P order (before M) (Accepted reply) M

abbrev pub given_of : {C : Type 0} → (C → Order) → Stacked C → Given
given_of order one = record { seat = one.seat; order = order one.command }

-- the state before the first of these commands, which led to M one after the other
abbrev pub start_of : {C : Type 0} → (C → ModelState → ModelState) → List (Stacked C) → ModelState → ModelState
start_of before [] M = M
start_of before (one ∷ stack) M = before one.command (start_of before stack M)

-- what is known of the commands of a type: the order of each, when it can be undone, and the state to which that leads
module _ {C : Type 0} (order : C → Order) (MayGoBack : C → Program → ModelState → Type 0) (before : C → ModelState → ModelState) where
  -- each of them can be undone once those after it are
  abbrev pub Unwinds : Program → List (Stacked C) → ModelState → Type 0
  Unwinds P [] M = Unit {0}
  Unwinds P (one ∷ stack) M =
      GoesBack P (MayGoBack one.command) (before one.command) (order one.command) (start_of before stack M) × Unwinds P stack M

  -- The table is of the program. Undoing all commands of the stack, the last one first, leads to the opening state.
  pub record IsSession (P : Program) (t : TableState) (stack : List (Stacked C)) : Type 0 where
    pub table : IsTableOf P t
    pub unwinds : Unwinds P stack (state_of t)
    pub start : start_of before stack (state_of t) ≡ opening P
