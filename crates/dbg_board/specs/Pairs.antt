-- The pairs of a board: for each call so far the number of calls and the position of the breakpoint that halts the session.
use Rattle.std.specs.Prelude.{◌≡◌, ℕ, ◌+◌, ◌≤◌, List, [], ◌∷◌, ◌++◌}
use Rattle.dbg_base.specs.declared.limits.TheConstants.{BREAKPOINTS}
use Rattle.dbg_board.specs.declared.glance.Glance.{Glance}

-- The first list is a prefix of the second.
abbrev pub Begins : List Glance → List Glance → Type 0
Begins prefix whole = (others : List Glance) × (whole ≡ prefix ++ others)

-- the last of these pairs, or `earlier` if there is none
abbrev pub last_from : Glance → List Glance → Glance
last_from earlier [] = earlier
last_from earlier (pair ∷ pairs) = last_from pair pairs

-- the last of these pairs; before the first call no breakpoint halts the session
abbrev pub last_of : List Glance → Glance
last_of pairs = last_from record { calls = 0; halt = 0 } pairs

-- The pairs continue from this number of calls, one call after the other, and each has the position of a breakpoint or 0.
abbrev pub IsNumbered : ℕ → List Glance → Type 0
IsNumbered calls [] = Unit {0}
IsNumbered calls (pair ∷ pairs) = (pair.calls ≡ calls + 1) × (pair.halt ≤ BREAKPOINTS) × IsNumbered (calls + 1) pairs
