-- The state of a session, independent of the code.
use Rattle.std.specs.Prelude.{ℕ, List, [], Option}
use Rattle.dbg_base.specs.Trees.{Program}
use Rattle.dbg_base.specs.SystemStates.{SystemState, history_of, opening_state}
use Rattle.dbg_base.specs.Breakpoints.{Breakpoint, IsHaltedBy, HaltsAt}

-- the system, and the breakpoints in the order in which they were set
pub record ModelState : Type 0 where
  pub system : SystemState
  pub breakpoints : List Breakpoint

-- the opening state, with no breakpoint
abbrev pub opening : Program → ModelState
opening P = record { system = opening_state P; breakpoints = [] }

-- the session with another system
abbrev pub with_system : ModelState → SystemState → ModelState
with_system M system = record M { system = system }

-- this breakpoint halts the session, or none
abbrev pub IsHalted : Program → ModelState → Option (List ℕ) → Type 0
IsHalted P M halted = IsHaltedBy P (history_of M.system) M.breakpoints halted

-- the position of the breakpoint that halts the session, or 0
abbrev pub IsHaltPlace : Program → ModelState → ℕ → Type 0
IsHaltPlace P M place = HaltsAt P (history_of M.system) M.breakpoints place
