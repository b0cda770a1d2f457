-- How commands are made.
use Rattle.std.specs.Prelude.{Result, IfOk}
use Rattle.dbg_base.specs.declared.call.Plan as plan
use Rattle.dbg_base.specs.declared.refusal.Refusal.{Refusal}

-- the function that makes commands returns one that was not applied yet
abbrev pub MakesFresh : {C : Type 0} → (plan.Plan → Result C Refusal → Type 0) → (C → Type 0) → Type 0
MakesFresh {C} post IsFresh = (given : plan.Plan) (made : Result C Refusal) → post given made → IfOk made IsFresh
