-- The result of reading a text: its meaning, or its first fault, unless memory ran out.
use Rattle.std.specs.Prelude.{◌≡◌, ℕ, List, Result, Ok, Err}
use Rattle.dbg_base.specs.Tokens.{Placed, HasTokens}
use Rattle.dbg_base.specs.declared.fault.ProgFault.{ProgFault}
use Rattle.proc_lang.specs.declared.fault.ProgError.{ProgError}
use Rattle.proc_lang.specs.declared.fault.ProgError.TheVariants.{Bad, Memory}

-- the text has tokens, and they derive this
abbrev pub Writes : {W : Type 0} → (List Placed → W → Type 0) → List ℕ → W → Type 0
Writes Derives text written = (tokens : List Placed) × HasTokens text tokens × Derives tokens written

-- a fault that is returned has this property
abbrev pub IfBad : {X : Type 0} → Result X ProgError → (ProgFault → Type 0) → Type 0
IfBad (Ok x) is_so = Unit {0}
IfBad (Err Memory) is_so = Unit {0}
IfBad (Err (Bad fault)) is_so = is_so fault

-- this is returned, as `view` sees it, unless memory ran out
abbrev pub Accepts : {X M : Type 0} → (X → M) → Result X ProgError → M → Type 0
Accepts view (Ok x) meaning = view x ≡ meaning
Accepts view (Err Memory) meaning = Unit {0}
Accepts view (Err (Bad fault)) meaning = ⊥

-- this fault is returned, unless memory ran out
abbrev pub Refuses : {X : Type 0} → Result X ProgError → ProgFault → Type 0
Refuses (Ok x) fault = ⊥
Refuses (Err Memory) fault = Unit {0}
Refuses (Err (Bad found)) fault = found ≡ fault
