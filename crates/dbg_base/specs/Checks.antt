-- The checks of a parsed program in text order, its tree, and which text reads as which program or predicate.
use Rattle.std.specs.Prelude.{◌≡◌, ℕ, ◌+◌, ◌<◌, ◌≤◌, Bool, List, [], ◌∷◌, ◌++◌, length, map, not, ◌==◌, if◌then◌else◌, ◌⊎◌, Contains, pos}
use Rattle.std.specs.Prelude.{unwrap_or}
use Rattle.std.specs.List.{AllByRecursion}
use Rattle.std.specs.Str.{bytes_eq}
use Rattle.dbg_base.specs.declared.expr.Sort.{Sort}
use Rattle.dbg_base.specs.declared.expr.Sort.TheVariants as sort
use Rattle.dbg_base.specs.declared.fault.ProgFault.{ProgFault}
use Rattle.dbg_base.specs.declared.fault.FaultKind.{FaultKind}
use Rattle.dbg_base.specs.declared.fault.FaultKind.TheVariants.{NameTaken, NameUnknown, TypeWrong, Limit, SelfSend, SetTwice}
use Rattle.dbg_base.specs.declared.limits.TheConstants.{PROCESSES, VARIABLES, COMMANDS, INPUT_BYTES}
use Rattle.dbg_base.specs.Names.{place_of, is_among}
use Rattle.dbg_base.specs.Faults.{kind_number}
use Rattle.dbg_base.specs.Sorts.{is_same_sort, outcome_sort, operand_sort}
use Rattle.dbg_base.specs.Trees as tree
use Rattle.dbg_base.specs.Tokens.{Placed, HasTokens, IsTokenFault}
use Rattle.dbg_base.specs.Grammar.{Named, Phrase, Number, Name, Truth, Count, Not, Negate, Binary, WrittenAction, Local, Sends, Receives}
use Rattle.dbg_base.specs.Grammar.{WrittenVariable, WrittenAssignment, WrittenCommand, WrittenProcess, DerivesExpression, DerivesProgram}
use Rattle.dbg_base.specs.Grammar.{IsGrammarFault}

-- the names that a process can use: those of all processes, its own, and those of its variables
pub record Scope : Type 0 where
  pub processes : List (List ℕ)
  pub own : List ℕ
  pub variables : List (List ℕ)

-- the fault, if the test passes
abbrev pub fault_where : Bool → FaultKind → ℕ → List ProgFault
fault_where b kind at = if b then record { kind = kind; at = at } ∷ [] else []

-- the fault of a name that is none of these
abbrev pub unknown : List (List ℕ) → Named → List ProgFault
unknown names named = fault_where (not (is_among named.name names)) NameUnknown named.at

-- the fault of an expression of the wrong type
abbrev pub wrong_sort : Sort → Sort → ℕ → List ProgFault
wrong_sort wanted found at = fault_where (not (is_same_sort wanted found)) TypeWrong at

-- the faults of a target that is not a process, or is the process itself
abbrev pub target_faults : Scope → Named → List ProgFault
target_faults scope target =
    unknown scope.processes target ++ fault_where (bytes_eq target.name scope.own) SelfSend target.at

-- the faults of an expression that should have this type
abbrev pub expression_faults : Scope → Sort → Phrase → List ProgFault
expression_faults scope wanted (Number at value) = wrong_sort wanted sort.Number at
expression_faults scope wanted (Name at name) =
    unknown scope.variables (record { at = at; name = name }) ++ wrong_sort wanted sort.Number at
expression_faults scope wanted (Truth at value) = wrong_sort wanted sort.Truth at
expression_faults scope wanted (Count at direction other) = wrong_sort wanted sort.Number at ++ target_faults scope other
expression_faults scope wanted (Not at operand) = wrong_sort wanted sort.Truth at ++ expression_faults scope sort.Truth operand
expression_faults scope wanted (Negate at operand) = wrong_sort wanted sort.Number at ++ expression_faults scope sort.Number operand
expression_faults scope wanted (Binary at operator left right) =
    wrong_sort wanted (outcome_sort operator) at
    ++ (expression_faults scope (operand_sort operator) left ++ expression_faults scope (operand_sort operator) right)

abbrev pub action_faults : Scope → WrittenAction → List ProgFault
action_faults scope Local = []
action_faults scope (Sends target value) = target_faults scope target ++ expression_faults scope sort.Number value
action_faults scope (Receives source variable) = target_faults scope source ++ unknown scope.variables variable

-- the variables that a command sets before its assignments
abbrev pub set_by_action : WrittenAction → List (List ℕ)
set_by_action (Receives source variable) = variable.name ∷ []
set_by_action action = []

-- the faults of an assignment, if the command has already set these variables
abbrev pub assigned_faults : Scope → List (List ℕ) → WrittenAssignment → List ProgFault
assigned_faults scope earlier a =
    (unknown scope.variables a.variable ++ fault_where (is_among a.variable.name earlier) SetTwice a.variable.at)
    ++ expression_faults scope sort.Number a.value

-- the faults of several assignments, one after the other
abbrev pub assignment_faults : Scope → List (List ℕ) → List WrittenAssignment → List ProgFault
assignment_faults scope earlier [] = []
assignment_faults scope earlier (a ∷ assignments) =
    assigned_faults scope earlier a ++ assignment_faults scope (a.variable.name ∷ earlier) assignments

abbrev pub command_faults : Scope → WrittenCommand → List ProgFault
command_faults scope command =
    expression_faults scope sort.Truth command.guard
    ++ (action_faults scope command.action
    ++ assignment_faults scope (set_by_action command.action) command.assignments)

-- the faults of a name after these names: it is one of them, or their number has reached the limit
abbrev pub name_faults : ℕ → List (List ℕ) → Named → List ProgFault
name_faults limit earlier named =
    fault_where (is_among named.name earlier) NameTaken named.at ++ fault_where (length earlier == limit) Limit named.at

abbrev pub variables_faults : List (List ℕ) → List WrittenVariable → List ProgFault
variables_faults earlier [] = []
variables_faults earlier (variable ∷ variables) =
    name_faults VARIABLES earlier variable.name ++ variables_faults (variable.name.name ∷ earlier) variables

-- the faults of commands, with so many commands before them
abbrev pub commands_faults : Scope → ℕ → List WrittenCommand → List ProgFault
commands_faults scope earlier [] = []
commands_faults scope earlier (command ∷ commands) =
    (fault_where (earlier == COMMANDS) Limit command.at ++ command_faults scope command)
    ++ commands_faults scope (earlier + 1) commands

abbrev pub variable_names : WrittenProcess → List (List ℕ)
variable_names process = map (λ variable. variable.name.name) process.variables

-- the names that a parsed process can use, if these are the names of all processes
abbrev pub scope_among : List (List ℕ) → WrittenProcess → Scope
scope_among names process = record { processes = names; own = process.name.name; variables = variable_names process }

abbrev pub process_faults : List (List ℕ) → WrittenProcess → List ProgFault
process_faults names process =
    variables_faults [] process.variables ++ commands_faults (scope_among names process) 0 process.commands

-- the faults of processes, with these names of processes before them
abbrev pub processes_faults : List (List ℕ) → List (List ℕ) → List WrittenProcess → List ProgFault
processes_faults names earlier [] = []
processes_faults names earlier (process ∷ processes) =
    (name_faults PROCESSES earlier process.name ++ process_faults names process)
    ++ processes_faults names (process.name.name ∷ earlier) processes

abbrev pub process_names : List WrittenProcess → List (List ℕ)
process_names written = map (λ process. process.name.name) written

-- all failed checks
abbrev pub check_faults : List WrittenProcess → List ProgFault
check_faults written = processes_faults (process_names written) [] written

-- the first fault has the lesser offset, or the same offset and at most the same kind
abbrev pub IsNotAfter : ProgFault → ProgFault → Type 0
IsNotAfter a b = (a.at < b.at) ⊎ ((a.at ≡ b.at) × (kind_number a.kind ≤ kind_number b.kind))

abbrev pub IsFirstFault : List ProgFault → ProgFault → Type 0
IsFirstFault faults fault = Contains faults fault × AllByRecursion (IsNotAfter fault) faults

-- the position of a name among these; a name that is not among them fails a check
abbrev pub index_of : List (List ℕ) → List ℕ → ℕ
index_of names name = unwrap_or (place_of name names) 0

abbrev pub phrase_tree : Scope → Phrase → tree.Tree
phrase_tree scope (Number at value) = tree.Number (pos value)
phrase_tree scope (Name at name) = tree.Variable (index_of scope.variables name)
phrase_tree scope (Truth at value) = tree.Truth value
phrase_tree scope (Count at direction other) = tree.Count direction (index_of scope.processes other.name)
phrase_tree scope (Not at operand) = tree.Not (phrase_tree scope operand)
phrase_tree scope (Negate at operand) = tree.Negate (phrase_tree scope operand)
phrase_tree scope (Binary at operator left right) = tree.Binary operator (phrase_tree scope left) (phrase_tree scope right)

abbrev pub action_tree : Scope → WrittenAction → tree.Action
action_tree scope Local = tree.Local
action_tree scope (Sends target value) = tree.Sends (index_of scope.processes target.name) (phrase_tree scope value)
action_tree scope (Receives source variable) =
    tree.Receives (index_of scope.processes source.name) (index_of scope.variables variable.name)

abbrev pub assignment_tree : Scope → WrittenAssignment → ℕ × tree.Tree
assignment_tree scope a = (index_of scope.variables a.variable.name, phrase_tree scope a.value)

abbrev pub command_tree : Scope → WrittenCommand → tree.Command
command_tree scope command = record {
  guard = phrase_tree scope command.guard;
  action = action_tree scope command.action;
  assignments = map (assignment_tree scope) command.assignments;
}

abbrev pub process_tree : List (List ℕ) → WrittenProcess → tree.Process
process_tree names process = record {
  name = process.name.name;
  variables = map (λ variable. (variable.name.name, variable.start)) process.variables;
  commands = map (command_tree (scope_among names process)) process.commands;
}

-- the tree of a parsed program
abbrev pub program_tree : List WrittenProcess → tree.Program
program_tree written = map (process_tree (process_names written)) written

-- The text has tokens, they derive something, no check of it fails, and this is its meaning. A start symbol is given by its derivations,
-- its checks and its meaning.
pub record ReadsAs {W M : Type 0} (Derives : List Placed → W → Type 0) (faults : W → List ProgFault) (says : W → M) (text : List ℕ)
    (meaning : M) : Type 0 where
  pub tokens : List Placed
  pub written : W
  pub has_tokens : HasTokens text tokens
  pub derives : Derives tokens written
  pub checks : faults written ≡ []
  pub said : meaning ≡ says written

-- the first fault of such a text, in the order length, tokens, grammar, checks
abbrev pub IsFaultOf : {W : Type 0} → (List Placed → W → Type 0) → (W → List ProgFault) → List ℕ → ProgFault → Type 0
IsFaultOf {W} Derives faults text fault =
    ((INPUT_BYTES < length text) × (fault ≡ record { kind = Limit; at = INPUT_BYTES }))
    ⊎ ((length text ≤ INPUT_BYTES) × IsTokenFault text fault)
    ⊎ ((tokens : List Placed) × HasTokens text tokens × IsGrammarFault Derives (length text) tokens fault)
    ⊎ ((tokens : List Placed) × (written : W) × HasTokens text tokens × Derives tokens written
    × IsFirstFault (faults written) fault)

-- the text reads as this program
abbrev pub Reads : List ℕ → tree.Program → Type 0
Reads = ReadsAs DerivesProgram check_faults program_tree

-- the first fault of a program text
abbrev pub IsFault : List ℕ → ProgFault → Type 0
IsFault = IsFaultOf DerivesProgram check_faults

-- the names that process p of a program can use
abbrev pub scope_of : tree.Program → ℕ → Scope
scope_of P p = record {
  processes = tree.names_of P;
  own = (tree.process_of P p).name;
  variables = map (λ variable. variable.0) (tree.process_of P p).variables;
}

-- the text reads as this truth expression of process p
abbrev pub ReadsPredicate : tree.Program → ℕ → List ℕ → tree.Tree → Type 0
ReadsPredicate P p = ReadsAs DerivesExpression (expression_faults (scope_of P p) sort.Truth) (phrase_tree (scope_of P p))

-- the first fault of the text of a predicate
abbrev pub IsPredicateFault : tree.Program → ℕ → List ℕ → ProgFault → Type 0
IsPredicateFault P p = IsFaultOf DerivesExpression (expression_faults (scope_of P p) sort.Truth)
