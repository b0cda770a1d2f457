-- What every accepted program meets, as a test of its tree. All that its commands name exists. No process sends to itself or counts
-- messages with itself. Types fit, names differ, no command sets a variable twice, and all numbers are within the limits.
use Rattle.std.specs.Prelude.{ℕ, ◌+◌, Bool, true, not, ◌&&◌, ◌==◌, List, [], ◌∷◌, length, map, nat_lt, nat_le}
use Rattle.std.specs.List.{list_all, list_any}
use Rattle.dbg_base.specs.declared.expr.Sort.{Sort}
use Rattle.dbg_base.specs.declared.expr.Sort.TheVariants as sort
use Rattle.dbg_base.specs.declared.limits.TheConstants.{PROCESSES, VARIABLES, COMMANDS}
use Rattle.dbg_base.specs.Names.{is_among}
use Rattle.dbg_base.specs.Sorts.{is_same_sort, outcome_sort, operand_sort}
use Rattle.dbg_base.specs.Trees.{Tree, Number, Variable, Truth, Count, Not, Negate, Binary, Action, Local, Sends, Receives}
use Rattle.dbg_base.specs.Trees.{Command, Process, Program, process_of, names_of}

-- the type of an expression, by its outermost form alone
abbrev pub tree_sort : Tree → Sort
tree_sort (Number value) = sort.Number
tree_sort (Variable index) = sort.Number
tree_sort (Truth value) = sort.Truth
tree_sort (Count direction other) = sort.Number
tree_sort (Not operand) = sort.Truth
tree_sort (Negate operand) = sort.Number
tree_sort (Binary operator left right) = outcome_sort operator

-- what a process can name: so many processes, of which it is number `own`, and so many variables of its own
pub record Bounds : Type 0 where
  pub processes : ℕ
  pub own : ℕ
  pub variables : ℕ

-- the process exists, and is not the process itself
abbrev pub is_other : Bounds → ℕ → Bool
is_other bounds process = nat_lt process bounds.processes && not (process == bounds.own)

-- within the expression each operand has the type that it must have, and all that is named exists
abbrev pub fits_within : Bounds → Tree → Bool
fits_within bounds (Number value) = true
fits_within bounds (Variable index) = nat_lt index bounds.variables
fits_within bounds (Truth value) = true
fits_within bounds (Count direction other) = is_other bounds other
fits_within bounds (Not operand) = is_same_sort sort.Truth (tree_sort operand) && fits_within bounds operand
fits_within bounds (Negate operand) = is_same_sort sort.Number (tree_sort operand) && fits_within bounds operand
fits_within bounds (Binary operator left right) =
    (is_same_sort (operand_sort operator) (tree_sort left) && fits_within bounds left)
    && (is_same_sort (operand_sort operator) (tree_sort right) && fits_within bounds right)

-- the expression has this type, and all that it names exists
abbrev pub is_fit : Bounds → Sort → Tree → Bool
is_fit bounds wanted tree = is_same_sort wanted (tree_sort tree) && fits_within bounds tree

-- each of these names differs from all names before it
abbrev pub are_fresh : List (List ℕ) → List (List ℕ) → Bool
are_fresh earlier [] = true
are_fresh earlier (name ∷ names) = not (is_among name earlier) && are_fresh (name ∷ earlier) names

-- each of these variables differs from all variables before it
abbrev pub are_unset : List ℕ → List ℕ → Bool
are_unset earlier [] = true
are_unset earlier (variable ∷ variables) =
    not (list_any (λ other. variable == other) earlier) && are_unset (variable ∷ earlier) variables

abbrev pub action_fits : Bounds → Action → Bool
action_fits bounds Local = true
action_fits bounds (Sends target value) = is_other bounds target && is_fit bounds sort.Number value
action_fits bounds (Receives source variable) = is_other bounds source && nat_lt variable bounds.variables

-- the variable that a command sets before its assignments
abbrev pub set_before : Action → List ℕ
set_before (Receives source variable) = variable ∷ []
set_before action = []

abbrev pub assignments_fit : Bounds → List (ℕ × Tree) → Bool
assignments_fit bounds assignments = list_all (λ a. nat_lt a.0 bounds.variables && is_fit bounds sort.Number a.1) assignments

abbrev pub command_fits : Bounds → Command → Bool
command_fits bounds command =
    (is_fit bounds sort.Truth command.guard && action_fits bounds command.action)
    && (assignments_fit bounds command.assignments
    && are_unset (set_before command.action) (map (λ a. a.0) command.assignments))

-- what a process can name, if it has this position among so many
abbrev pub bounds_among : ℕ → ℕ → Process → Bounds
bounds_among processes own process = record { processes = processes; own = own; variables = length process.variables }

-- what process p of a program can name
abbrev pub bounds_of : Program → ℕ → Bounds
bounds_of P p = bounds_among (length P) p (process_of P p)

abbrev pub process_fits : ℕ → ℕ → Process → Bool
process_fits processes own process =
    (nat_le (length process.variables) VARIABLES && nat_le (length process.commands) COMMANDS)
    && (are_fresh [] (map (λ variable. variable.0) process.variables)
    && list_all (command_fits (bounds_among processes own process)) process.commands)

-- these processes fit; they are the processes from this position on, of so many
abbrev pub processes_fit : ℕ → ℕ → Program → Bool
processes_fit processes own [] = true
processes_fit processes own (process ∷ others) = process_fits processes own process && processes_fit processes (own + 1) others

abbrev pub is_well_formed : Program → Bool
is_well_formed P = (nat_le (length P) PROCESSES && are_fresh [] (names_of P)) && processes_fit (length P) 0 P
