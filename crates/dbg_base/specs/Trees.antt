-- A program as a tree: the meaning of its text, with numbers from 0 for processes, variables and commands.
use Rattle.std.specs.Prelude.{ℕ, ℤ, Bool, List, [], map, Option, slice_get, slice_index_or}
use Rattle.dbg_base.specs.declared.expr.Operator.{Operator}
use Rattle.dbg_base.specs.declared.expr.Direction.{Direction}
use Rattle.dbg_base.specs.declared.expr.Direction.TheVariants as direction
use Rattle.dbg_base.specs.declared.expr.Expr.{Expr}
use Rattle.dbg_base.specs.declared.expr.Expr.TheVariants as expr

-- an expression of one process, over its variables and its counts of messages
pub data Tree : Type 0 where
  Number : (value : ℤ) → Tree
  Variable : (index : ℕ) → Tree
  Truth : (value : Bool) → Tree
  Count : (direction : Direction) (other : ℕ) → Tree
  Not : (operand : Tree) → Tree
  Negate : (operand : Tree) → Tree
  Binary : (operator : Operator) (left right : Tree) → Tree

-- the tree of an expression of the code, without its heap memory
abbrev pub tree_of : Expr → Tree
tree_of (expr.Number value) = Number value
tree_of (expr.Variable index) = Variable index
tree_of (expr.Truth value) = Truth value
tree_of (expr.Sent pid) = Count direction.Sent pid.0
tree_of (expr.Got pid) = Count direction.Got pid.0
tree_of (expr.Not' place operand) = Not (tree_of operand)
tree_of (expr.Negate' place operand) = Negate (tree_of operand)
tree_of (expr.Binary' operator left_place left right_place right) = Binary operator (tree_of left) (tree_of right)

-- what a command does besides its assignments: nothing, a send of a value, or a receive into a variable
pub data Action : Type 0 where
  Local : Action
  Sends : (target : ℕ) (value : Tree) → Action
  Receives : (source variable : ℕ) → Action

-- a guarded command: each assignment is a variable and the expression of its new value
pub record Command : Type 0 where
  pub guard : Tree
  pub action : Action
  pub assignments : List (ℕ × Tree)

-- a process: each variable is its name and its initial value
pub record Process : Type 0 where
  pub name : List ℕ
  pub variables : List (List ℕ × ℤ)
  pub commands : List Command

-- the processes in text order
abbrev pub Program : Type 0
Program = List Process

-- the process of a program that does not have it
abbrev pub no_process : Process
no_process = record { name = []; variables = []; commands = [] }

-- process p, or the empty process if there is none
abbrev pub process_of : Program → ℕ → Process
process_of P p = slice_index_or P p no_process

-- the names of the processes
abbrev pub names_of : Program → List (List ℕ)
names_of P = map (λ process. process.name) P

-- command k of process p, if it has one
abbrev pub command_of : Program → ℕ → ℕ → Option Command
command_of P p k = slice_get (process_of P p).commands k
