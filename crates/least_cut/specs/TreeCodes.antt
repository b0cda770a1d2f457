-- How values with expressions are encoded: the tree of an expression is stored as an expression whose boxes have no address.
use Rattle.std.specs.Prelude.{◌≡◌, ℕ, Box, refl}
use Rattle.std.specs.Coded.{Coded, code_by}
use Rattle.std.specs.declared.alloc.Global.{Global}
use denote.RawPtr.{null_ptr}
use Rattle.dbg_base.specs.declared.expr.Direction.{Direction}
use Rattle.dbg_base.specs.declared.expr.Direction.TheVariants as direction
use Rattle.dbg_base.specs.declared.expr.Expr.{Expr}
use Rattle.dbg_base.specs.declared.expr.Expr.TheVariants as expr
use Rattle.dbg_base.specs.contracts.expr.Expr.{the_row}
use Rattle.dbg_base.specs.Trees.{Tree, Number, Variable, Truth, Count, Not, Negate, Binary, tree_of}

abbrev nowhere : Box (Unit {0}) Global
nowhere = record { ptr = null_ptr; alloc = record { memory = record { seal = tt } }; value = tt }

abbrev count_expr : Direction → ℕ → Expr
count_expr direction.Sent other = expr.Sent (record { 0 = other })
count_expr direction.Got other = expr.Got (record { 0 = other })

abbrev expr_of : Tree → Expr
expr_of (Number value) = expr.Number value
expr_of (Variable index) = expr.Variable index
expr_of (Truth value) = expr.Truth value
expr_of (Count direction other) = count_expr direction other
expr_of (Not operand) = expr.Not' nowhere (expr_of operand)
expr_of (Negate operand) = expr.Negate' nowhere (expr_of operand)
expr_of (Binary operator left right) = expr.Binary' operator nowhere (expr_of left) nowhere (expr_of right)

pub tree_again : (tree : Tree) → tree_of (expr_of tree) ≡ tree
tree_again (Number value) = refl
tree_again (Variable index) = refl
tree_again (Truth value) = refl
tree_again (Count direction.Sent other) = refl
tree_again (Count direction.Got other) = refl
tree_again (Not operand) = λ i. Not (tree_again operand i)
tree_again (Negate operand) = λ i. Negate (tree_again operand i)
tree_again (Binary operator left right) = λ i. Binary operator (tree_again left i) (tree_again right i)

abbrev pub coded_tree : Coded Tree
coded_tree = code_by Expr the_row.coded expr_of tree_of tree_again
