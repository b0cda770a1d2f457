-- Which calls have no batch within a batch.
use Rattle.std.specs.Prelude.{Bool, true, false, ◌&&◌, List, [], ◌∷◌}
use Rattle.dbg_base.specs.declared.call.Plan as plan
use Rattle.dbg_base.specs.declared.call.Plan.TheOpen as shape
use Rattle.dbg_base.specs.declared.call.Call as call
use Rattle.dbg_base.specs.declared.call.Call.TheVariants as calls
use Rattle.dbg_base.specs.Calls.{Order, One, Batch, order_of}

-- it gives a single command
abbrev pub one_order : Order → Bool
one_order (One plan) = true
one_order (Batch plans) = false

abbrev pub is_one : plan.Plan → Bool
is_one given = one_order (order_of given)

abbrev pub are_ones : List plan.Plan → Bool
are_ones [] = true
are_ones (one ∷ others) = is_one one && are_ones others

-- it is a single command, or a batch of such
abbrev flat_shape : shape.Plan-F plan.Plan → Bool
flat_shape (shape.Batch batch) = are_ones batch.items
flat_shape other = true

abbrev pub is_flat : plan.Plan → Bool
is_flat given = flat_shape (plan.out-Plan given)

-- so is a command that it gives
abbrev pub is_flat_call : call.Call → Bool
is_flat_call (calls.Give given) = is_flat given
is_flat_call other = true
