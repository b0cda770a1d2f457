-- Which plain program a model means.
use Rattle.std.specs.Prelude.{◌≡◌, ℕ, suc, ℤ, List, [], ◌∷◌, ◌++◌, length, map, take, drop, Option, Some, None, slice_set, replicate}
use Rattle.std.specs.Fmt.{signed_decimal}
use Rattle.dbg_base.specs.Evaluation.{Value, Num}
use Rattle.dbg_base.specs.Trees as tree
use Rattle.dbg_base.specs.Trees.{Tree, names_of}
use Rattle.notation_tree.specs.declared.model.ParsedModel.{ParsedModel}
use Rattle.notation_tree.specs.declared.syntax.Expression.{Expression}
use Rattle.notation_tree.specs.declared.syntax.Binder.{Binder, out-Binder}
use Rattle.notation_tree.specs.declared.syntax.Definition.{Definition}
use Rattle.notation_tree.specs.declared.syntax.Constant.{Constant}
use Rattle.notation_tree.specs.declared.syntax.VariableNode.{VariableNode}
use Rattle.notation_tree.specs.declared.syntax.AssignmentNode.{AssignmentNode}
use Rattle.notation_tree.specs.declared.syntax.ActionNode.{ActionNode}
use Rattle.notation_tree.specs.declared.syntax.ActionNode.TheVariants as action
use Rattle.notation_tree.specs.declared.syntax.CommandNode.{CommandNode}
use Rattle.notation_tree.specs.declared.syntax.Label.{Label}
use Rattle.notation_tree.specs.declared.syntax.ItemNode.{ItemNode, out-ItemNode}
use Rattle.notation_tree.specs.declared.syntax.ItemNode.TheOpen as item
use Rattle.notation_tree.specs.declared.syntax.ProcessNode.{ProcessNode}
use Rattle.notation_tree.specs.declared.syntax.DeclarationNode.{DeclarationNode}
use Rattle.notation_tree.specs.declared.syntax.DeclarationNode.TheVariants as declaration
use Rattle.notation_meaning.specs.ModelScopes.{Constants, Context, Scope, Top, Member, Call}
use Rattle.notation_meaning.specs.ModelValues.{HasValue, HasMembers}
use Rattle.notation_meaning.specs.ModelFamilies.{Place, place_in, PlacesOf, IsIndexed}
use Rattle.notation_meaning.specs.PlainExpressions.{Setting, Names, Means}

-- a variable of the plain program: its name and its initial value
abbrev pub Variable : Type 0
Variable = List ℕ × ℤ

-- what is known of a process of the plain program: the number of its declaration, the values of the members of its family and of its own
-- constants, and the labels of its commands, empty for a command that has none
pub record Copy : Type 0 where
  pub declaration : ℕ
  pub members : List ℤ
  pub constants : Constants
  pub labels : List (List ℕ)

-- a model, the values of its constants, what is known of its processes, and a plain program
pub record Played : Type 0 where
  pub model : ParsedModel
  pub constants : Constants
  pub copies : List Copy
  pub program : tree.Program

-- a name with one more index in brackets, and with indices
abbrev pub bracketed : List ℕ → ℤ → List ℕ
bracketed name z = name ++ (91 ∷ signed_decimal z ++ 93 ∷ [])

abbrev pub with_brackets : List ℕ → List ℤ → List ℕ
with_brackets name [] = name
with_brackets name (z ∷ indices) = with_brackets (bracketed name z) indices

-- the values of the members of a scope, the outermost first
abbrev pub values_in : Scope → List ℤ
values_in Top = []
values_in (Member number value outer) = values_in outer ++ (value ∷ [])
values_in (Call first arguments outer) = values_in outer

-- the label of a command: its indices are the values of the members of each `for` around it, which come after those of its family
abbrev pub label_in : ℕ → Scope → Option Label → List ℕ
label_in family s None = []
label_in family s (Some label) = with_brackets label.name (drop family (values_in s))

-- what is the same for all items of a process: the definitions of the model, how many members its family has, the names of all processes and
-- those of the variables of the process
pub record Frame : Type 0 where
  pub definitions : List Definition
  pub family : ℕ
  pub processes : List (List ℕ)
  pub variables : List (List ℕ)

-- what an expression refers to, where constants have these values
abbrev pub setting_in : Frame → Constants → Setting
setting_in frame constants = record {
  context = record { definitions = frame.definitions; constants = constants };
  processes = frame.processes;
  variables = frame.variables;
}

-- the constants, where one more has a value
abbrev pub with_constant : Constants → ℕ → Value → Constants
with_constant constants number value = slice_set constants number (Some value)

-- what the items so far mean: the constants, and the variables and commands of the plain process, with the labels of these
pub record Progress : Type 0 where
  pub constants : Constants
  pub variables : List Variable
  pub commands : List tree.Command
  pub labels : List (List ℕ)

-- the variables of a family, one for each of these places, after those so far
pub data VariablesOf (K : Context) (node : VariableNode) : List Place → List Variable → List Variable → Type 0 where
  no_variables : {before : List Variable} → VariablesOf K node [] before before
  more_variables : {place : Place} {places : List Place} {name : List ℕ} {z : ℤ} {before after : List Variable}
      → HasValue K place.scope node.value (Num z) → IsIndexed node.name place.indices name
      → VariablesOf K node places (before ++ ((name, z) ∷ [])) after → VariablesOf K node (place ∷ places) before after

-- the assignments of a command, in order
pub data AssignmentsOf (S : Setting) (s : Scope) : List AssignmentNode → List (ℕ × Tree) → Type 0 where
  no_assignments : AssignmentsOf S s [] []
  more_assignments : {node : AssignmentNode} {nodes : List AssignmentNode} {i : ℕ} {t : Tree} {assignments : List (ℕ × Tree)}
      → Names S.context s node.target S.variables i → Means S s node.value t → AssignmentsOf S s nodes assignments
      → AssignmentsOf S s (node ∷ nodes) ((i, t) ∷ assignments)

-- what a command does besides its assignments
pub data ActionOf (S : Setting) (s : Scope) : ActionNode → tree.Action → Type 0 where
  local : ActionOf S s action.Local tree.Local
  send : {at p : ℕ} {target : _} {e : Expression} {t : Tree} → Names S.context s target S.processes p → Means S s e t
      → ActionOf S s (action.Send at target e) (tree.Sends p t)
  receive : {at p i : ℕ} {source variable : _} → Names S.context s source S.processes p → Names S.context s variable S.variables i
      → ActionOf S s (action.Receive at source variable) (tree.Receives p i)

-- a command of the plain program
pub record CommandOf (S : Setting) (s : Scope) (node : CommandNode) (command : tree.Command) : Type 0 where
  pub guard : Means S s node.guard command.guard
  pub action : ActionOf S s node.action command.action
  pub assignments : AssignmentsOf S s node.assignments.items command.assignments

mutual
  -- what an item means, after what the items before it mean
  pub data ItemOf (F : Frame) : Scope → ItemNode → Progress → Progress → Type 0 where
    constant_item : {s : Scope} {node : ItemNode} {v : Value} {q : Progress} (c : Constant) → out-ItemNode node ≡ item.Constant c
        → HasValue (setting_in F q.constants).context s c.value v
        → ItemOf F s node q (record q { constants = with_constant q.constants c.number v })
    variable_item : {s : Scope} {node : ItemNode} {places : List Place} {vs : List Variable} {q : Progress} (v : VariableNode)
        → out-ItemNode node ≡ item.Variable v → PlacesOf (setting_in F q.constants).context (place_in s ∷ []) v.ranges.items places
        → VariablesOf (setting_in F q.constants).context v places q.variables vs → ItemOf F s node q (record q { variables = vs })
    command_item : {s : Scope} {node : ItemNode} {c : tree.Command} {q : Progress} (k : CommandNode) → out-ItemNode node ≡ item.Command k
        → CommandOf (setting_in F q.constants) s k c
        → ItemOf F s node q (record q { commands = q.commands ++ (c ∷ []); labels = q.labels ++ (label_in F.family s k.label ∷ []) })
    repeated_items : {s : Scope} {node : ItemNode} {ms : List ℤ} {q r : Progress} (b : Binder) (inner : _)
        → out-ItemNode node ≡ item.Repeat b inner → HasMembers (setting_in F q.constants).context s b ms
        → CopiesOf F s b inner.items ms q r → ItemOf F s node q r

  -- what items mean, in order
  pub data ItemsOf (F : Frame) : Scope → List ItemNode → Progress → Progress → Type 0 where
    no_items : {s : Scope} {q : Progress} → ItemsOf F s [] q q
    more_items : {s : Scope} {node : ItemNode} {nodes : List ItemNode} {q r t : Progress} → ItemOf F s node q r → ItemsOf F s nodes r t
        → ItemsOf F s (node ∷ nodes) q t

  -- what the items of a `for` mean: the items once for each of these members
  pub data CopiesOf (F : Frame) : Scope → Binder → List ItemNode → List ℤ → Progress → Progress → Type 0 where
    no_copies : {s : Scope} {b : Binder} {nodes : List ItemNode} {q : Progress} → CopiesOf F s b nodes [] q q
    more_copies : {s : Scope} {b : Binder} {nodes : List ItemNode} {m : ℤ} {ms : List ℤ} {q r t : Progress}
        → ItemsOf F (Member (out-Binder b).member m s) nodes q r → CopiesOf F s b nodes ms r t → CopiesOf F s b nodes (m ∷ ms) q t

-- what the declarations so far mean: the constants, the processes of the plain program, and what is known of them
pub record ModelProgress : Type 0 where
  pub constants : Constants
  pub processes : tree.Program
  pub copies : List Copy

-- The process at a place of its family, in a program with these names of processes, which the declaration of a number makes, and what is known
-- of it. After it the constants have the values `later`.
pub record ProcessOf (D : List Definition) (names : List (List ℕ)) (n : ℕ) (node : ProcessNode) (place : Place) (constants later : Constants)
    (p : tree.Process) (copy : Copy) : Type 0 where
  pub name : IsIndexed node.name place.indices p.name
  pub items : ItemsOf
      (record { definitions = D; family = length place.indices; processes = names; variables = map (λ v. v.0) p.variables })
      place.scope node.items.items (record { constants = constants; variables = []; commands = []; labels = [] })
      (record { constants = later; variables = p.variables; commands = p.commands; labels = copy.labels })
  pub declared : copy.declaration ≡ n
  pub members : copy.members ≡ place.indices
  pub own : copy.constants ≡ take node.constants (drop node.first_constant later)

-- the processes of a family, one for each of these places, after those so far
pub data ProcessesOf (D : List Definition) (names : List (List ℕ)) (n : ℕ) (node : ProcessNode) : List Place → ModelProgress → ModelProgress
    → Type 0 where
  no_processes : {q : ModelProgress} → ProcessesOf D names n node [] q q
  more_processes : {place : Place} {places : List Place} {later : Constants} {p : tree.Process} {copy : Copy} {q r : ModelProgress}
      → ProcessOf D names n node place q.constants later p copy
      → ProcessesOf D names n node places
      (record { constants = later; processes = q.processes ++ (p ∷ []); copies = q.copies ++ (copy ∷ []) }) r
      → ProcessesOf D names n node (place ∷ places) q r

-- what the declaration of a number means, after what the declarations before it mean
pub data DeclarationOf (D : List Definition) (names : List (List ℕ)) (n : ℕ) : DeclarationNode → ModelProgress → ModelProgress → Type 0 where
  constant_declared : {c : Constant} {v : Value} {q : ModelProgress}
      → HasValue (record { definitions = D; constants = q.constants }) Top c.value v
      → DeclarationOf D names n (declaration.Constant c) q (record q { constants = with_constant q.constants c.number v })
  process_declared : {node : ProcessNode} {places : List Place} {q r : ModelProgress}
      → PlacesOf (record { definitions = D; constants = q.constants }) (place_in Top ∷ []) node.ranges.items places
      → ProcessesOf D names n node places q r → DeclarationOf D names n (declaration.Process node) q r

-- what declarations mean, in order, from the declaration of a number on
pub data DeclarationsOf (D : List Definition) (names : List (List ℕ)) : ℕ → List DeclarationNode → ModelProgress → ModelProgress → Type 0 where
  no_declarations : {n : ℕ} {q : ModelProgress} → DeclarationsOf D names n [] q q
  more_declarations : {n : ℕ} {node : DeclarationNode} {nodes : List DeclarationNode} {q r t : ModelProgress}
      → DeclarationOf D names n node q r → DeclarationsOf D names (suc n) nodes r t → DeclarationsOf D names n (node ∷ nodes) q t

-- the model means this plain program, and that is known of its constants and processes: no constant has a value before its declarations
pub record ProgramOf (L : Played) : Type 0 where
  pub declarations : DeclarationsOf L.model.tables.definitions.items (names_of L.program) 0 L.model.declarations.items
      (record { constants = replicate L.model.tables.constants None; processes = []; copies = [] })
      (record { constants = L.constants; processes = L.program; copies = L.copies })
