-- The result of an evaluation, in terms of the model.
use Rattle.std.specs.Prelude.{Option, Some, None, Result, Ok, Err}
use Rattle.dbg_base.specs.Evaluation as model
use Rattle.local_eval.specs.declared.fault.EvalFault.{EvalFault}
use Rattle.local_eval.specs.declared.value.Value.{Value}
use Rattle.local_eval.specs.declared.value.Value.TheVariants.{Num, Truth}

-- the model's value of a value of the code
abbrev pub value_of : Value → model.Value
value_of (Num z) = model.Num z
value_of (Truth b) = model.Tru b

-- the result as `view` sees it, or none at a fault
abbrev pub outcome : {X Y : Type 0} → (X → Y) → Result X EvalFault → Option Y
outcome view (Ok x) = Some (view x)
outcome view (Err fault) = None
