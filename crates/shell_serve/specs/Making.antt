-- The function that makes the commands of a run.
use Rattle.std.specs.Prelude.{◌≡◌, Result, Ok, Err}
use Rattle.dbg_base.specs.declared.refusal.Refusal.{Refusal}
use Rattle.dbg_base.specs.declared.refusal.Refusal.TheVariants.{Memory}
use Rattle.dbg_base.specs.Calls.{Order}

-- the result of making an order: a command of this order that was not applied yet, or memory ran out
abbrev pub IsMade : {C : Type 0} → (C → Type 0) → (C → Order) → Order → Result C Refusal → Type 0
IsMade IsFresh order wanted (Ok command) = IsFresh command × (order command ≡ wanted)
IsMade IsFresh order wanted (Err refusal) = refusal ≡ Memory
