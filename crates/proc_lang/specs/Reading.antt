-- The result of a method of the parser, against what the model reads from its tokens.
use Rattle.std.specs.Prelude.{◌≡◌, ℕ, ◌-◌, List, [], ◌∷◌, length, drop, Result, Ok, Err}
use Rattle.dbg_base.specs.Tokens as model
use Rattle.dbg_base.specs.declared.fault.FaultKind.TheVariants as fault
use Rattle.proc_lang.specs.declared.fault.ProgError.{ProgError}
use Rattle.proc_lang.specs.declared.fault.ProgError.TheVariants as errors
use Rattle.proc_lang.specs.declared.parser.Stop.{Stop}
use Rattle.proc_lang.specs.declared.parser.Stop.TheVariants.{Memory, Unexpected}

-- the value as `view` sees it, with these tokens left; or reading failed with so many left; unless memory ran out
abbrev pub Gives : {X Y : Type 0} → (X → Y) → Result X Stop → List model.Placed → Result (Y × List model.Placed) ℕ → Type 0
Gives view (Ok x) rest read = read ≡ Ok (view x, rest)
Gives view (Err Memory) rest read = Unit {0}
Gives view (Err (Unexpected left)) rest read = read ≡ Err left

-- the offset of the first of these tokens, or the end if there is none
abbrev pub first_offset : ℕ → List model.Placed → ℕ
first_offset end [] = end
first_offset end (p ∷ tokens) = p.at

-- the offset of the token from which on so many are left
abbrev pub offset_of : ℕ → ℕ → List model.Placed → ℕ
offset_of end left tokens = first_offset end (drop (length tokens - left) tokens)

-- the error for a failure: at the first token that cannot follow, or at the end; or memory ran out
abbrev pub IsStop : Stop → List model.Placed → ℕ → ProgError → Type 0
IsStop Memory tokens end error = error ≡ errors.Memory
IsStop (Unexpected left) tokens end error = error ≡ errors.Bad (record { kind = fault.Grammar; at = offset_of end left tokens })
