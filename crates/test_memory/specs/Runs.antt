-- How commands are made.
use Rattle.std.specs.Prelude.{◌≡◌, Result, IfOk, IfErr}
use Rattle.dbg_base.specs.declared.refusal.Refusal.{Refusal}
use Rattle.dbg_base.specs.declared.refusal.Refusal.TheVariants.{Memory}
use Rattle.dbg_command.specs.declared.givable.Givable.{Givable}

-- the function that makes commands returns one that was not applied yet, or memory ran out
abbrev pub MakesFresh : {C : Type 0} → (Givable → Result C Refusal → Type 0) → (C → Type 0) → Type 0
MakesFresh {C} post IsFresh =
    (given : Givable) (made : Result C Refusal) → post given made → IfOk made IsFresh × IfErr made (λ refusal. refusal ≡ Memory)
