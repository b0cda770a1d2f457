-- Where an expression is true.
use Rattle.std.specs.Prelude.{Bool, ℕ, List, [], ◌∷◌, Option, Result, map, slice_index_or, IfSome, IfOk, ◌≡◌}
use Rattle.std.specs.Borrow.{Bor}
use Rattle.std.specs.declared.alloc.AllocError.{AllocError}
use Rattle.dbg_base.specs.declared.expr.Expr.{Expr}
use Rattle.dbg_base.specs.declared.ids.Pid.{Pid}
use Rattle.dbg_base.specs.Trees.{Tree, tree_of}
use Rattle.dbg_base.specs.LocalStates.{LocalState, no_state}
use Rattle.dbg_base.specs.Predicates.{holds}
use Rattle.event_rows.specs.EventValues.{EventValue, RowsState}
use Rattle.event_rows.specs.Events.{after_event}

-- whether the expression holds in the local state, and after each of these events
abbrev pub truths_along : Tree → LocalState → List EventValue → List Bool
truths_along tree state [] = holds tree state ∷ []
truths_along tree state (event ∷ events) = holds tree state ∷ truths_along tree (after_event event state) events

-- whether the expression holds at the start of the process and after each of its events
abbrev pub list_in : RowsState → Pid × Bor Expr → List Bool
list_in rows named =
    truths_along (tree_of named.1.now) (slice_index_or rows.starts named.0.0 no_state) (slice_index_or rows.events named.0.0 [])

-- the same for each of these pairs of a process and an expression
abbrev pub lists_in : RowsState → List (Pid × Bor Expr) → List (List Bool)
lists_in rows named = map (list_in rows) named

-- if a list was made, it is this one
abbrev pub IsMade : List Bool → Option (Result (List Bool) AllocError) → Type 0
IsMade truths made = IfSome made (λ result. IfOk result (λ list. list ≡ truths))

-- if a list was made, it is the one at this position among these
abbrev pub IsMadeAt : List (List Bool) → ℕ → Option (Result (List Bool) AllocError) → Type 0
IsMadeAt lists place made = IsMade (slice_index_or lists place []) made
