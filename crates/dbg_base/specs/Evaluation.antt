-- The value of an expression, or none if its evaluation faults.
use Rattle.std.specs.Prelude.{ℤ, pos, negsuc, ◌+ℤ◌, ◌-ℤ◌, ◌*ℤ◌, int_lt, int_le, int_div, int_rem, Bool, true, false, not, ◌&&◌}
use Rattle.std.specs.Prelude.{Option, Some, None, slice_get, if◌then◌else◌}
use Rattle.std.specs.Option.{option_map}
use Rattle.std.specs.Ordering.{int_eq}
use Rattle.dbg_base.specs.declared.expr.Operator.{Operator}
use Rattle.dbg_base.specs.declared.expr.Operator.TheVariants.{Add, Subtract, Multiply, Divide, Remainder, Equal, NotEqual, Less}
use Rattle.dbg_base.specs.declared.expr.Operator.TheVariants.{LessOrEqual, Greater, GreaterOrEqual, And, Or}
use Rattle.dbg_base.specs.Trees.{Tree, Number, Variable, Truth, Count, Not, Negate, Binary}
use Rattle.dbg_base.specs.LocalStates.{LocalState, counts_of}

-- a value: a number or a truth value
pub data Value : Type 0 where
  Num : (number : ℤ) → Value
  Tru : (truth : Bool) → Value

-- the number is one of the signed numbers of 64 bits
abbrev pub is_in_range : ℤ → Bool
is_in_range z = int_le (negsuc 9223372036854775807) z && int_le z (pos 9223372036854775807)

-- the number, or a fault if it is out of range
abbrev pub ranged : ℤ → Option Value
ranged z = if is_in_range z then Some (Num z) else None

-- continues with a number; anything else is a fault
abbrev pub with_number : Option Value → (ℤ → Option Value) → Option Value
with_number None go = None
with_number (Some (Num z)) go = go z
with_number (Some (Tru b)) go = None

-- continues with a truth value; anything else is a fault
abbrev pub with_truth : Option Value → (Bool → Option Value) → Option Value
with_truth None go = None
with_truth (Some (Num z)) go = None
with_truth (Some (Tru b)) go = go b

-- a quotient or a remainder; a fault if the divisor is 0 or the quotient is out of range
abbrev pub divided : ℤ → ℤ → ℤ → Option Value
divided x y outcome =
    if int_eq y (pos 0) then None else (if is_in_range (int_div x y) then Some (Num outcome) else None)

-- an operator on two numbers
abbrev pub on_numbers : Operator → ℤ → ℤ → Option Value
on_numbers Add x y = ranged (x +ℤ y)
on_numbers Subtract x y = ranged (x -ℤ y)
on_numbers Multiply x y = ranged (x *ℤ y)
on_numbers Divide x y = divided x y (int_div x y)
on_numbers Remainder x y = divided x y (int_rem x y)
on_numbers Equal x y = Some (Tru (int_eq x y))
on_numbers NotEqual x y = Some (Tru (not (int_eq x y)))
on_numbers Less x y = Some (Tru (int_lt x y))
on_numbers LessOrEqual x y = Some (Tru (int_le x y))
on_numbers Greater x y = Some (Tru (int_lt y x))
on_numbers GreaterOrEqual x y = Some (Tru (int_le y x))
on_numbers And x y = None
on_numbers Or x y = None

-- an operator on the values of its operands; for `and` and `or` the right value counts only if the left one does not decide
abbrev pub combined : Operator → Option Value → Option Value → Option Value
combined And left right = with_truth left (λ b. if b then right else Some (Tru false))
combined Or left right = with_truth left (λ b. if b then Some (Tru true) else right)
combined operator left right = with_number left (λ x. with_number right (λ y. on_numbers operator x y))

-- the value of an expression in this local state of its process
abbrev pub evaluate : Tree → LocalState → Option Value
evaluate (Number value) state = Some (Num value)
evaluate (Variable index) state = option_map Num (slice_get state.values index)
evaluate (Truth value) state = Some (Tru value)
evaluate (Count direction other) state = option_map (λ n. Num (pos n)) (slice_get (counts_of direction state) other)
evaluate (Not operand) state = with_truth (evaluate operand state) (λ b. Some (Tru (not b)))
evaluate (Negate operand) state = with_number (evaluate operand state) (λ z. ranged (pos 0 -ℤ z))
evaluate (Binary operator left right) state = combined operator (evaluate left state) (evaluate right state)

-- the number to which the expression evaluates, if it evaluates to one
abbrev pub number_of : Option Value → Option ℤ
number_of None = None
number_of (Some (Num z)) = Some z
number_of (Some (Tru b)) = None
