-- The type of an expression, a number or a truth value, by its outermost form alone; and the types that its operands must have.
use Rattle.std.specs.Prelude.{Bool, true, false}
use Rattle.dbg_base.specs.declared.expr.Operator.{Operator}
use Rattle.dbg_base.specs.declared.expr.Operator.TheVariants.{Add, Subtract, Multiply, Divide, Remainder, And, Or}
use Rattle.dbg_base.specs.declared.expr.Sort.{Sort}
use Rattle.dbg_base.specs.declared.expr.Sort.TheVariants.{Number, Truth}

abbrev pub is_same_sort : Sort → Sort → Bool
is_same_sort Number Number = true
is_same_sort Truth Truth = true
is_same_sort a b = false

-- the type of an operator's result
abbrev pub outcome_sort : Operator → Sort
outcome_sort Add = Number
outcome_sort Subtract = Number
outcome_sort Multiply = Number
outcome_sort Divide = Number
outcome_sort Remainder = Number
outcome_sort operator = Truth

-- the type of its operands
abbrev pub operand_sort : Operator → Sort
operand_sort And = Truth
operand_sort Or = Truth
operand_sort operator = Number
