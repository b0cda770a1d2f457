-- The effect of a command, in terms of the model.
use Rattle.std.specs.Prelude.{◌≡◌, Option, Some, None, Result, Ok, Err}
use Rattle.dbg_base.specs.Firing.{Effect}
use Rattle.local_eval.specs.declared.change.Change.{Change}
use Rattle.local_eval.specs.declared.fault.EvalError.{EvalError}
use Rattle.local_eval.specs.declared.fault.EvalError.TheVariants.{Fault, Memory}

-- the effect of a change of the code
abbrev pub effect_of_change : Change → Effect
effect_of_change change = record { sets = change.sets.items; message = change.message }

-- The result is this effect, or a fault exactly if there is no effect, unless memory ran out.
abbrev pub Gives : Result Change EvalError → Option Effect → Type 0
Gives (Ok change) known = known ≡ Some (effect_of_change change)
Gives (Err Fault) known = known ≡ None
Gives (Err Memory) known = Unit {0}
