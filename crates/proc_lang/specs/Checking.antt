-- The results of the checks, in terms of the model.
use Rattle.std.specs.Prelude.{◌≡◌, ℕ, ℤ, List, [], map, Result, Ok, Err, Some, slice_get}
use Rattle.dbg_base.specs.declared.fault.ProgFault.{ProgFault}
use Rattle.proc_tree.specs.declared.process.Variable.{Variable}
use Rattle.proc_lang.specs.declared.fault.ProgError.{ProgError}
use Rattle.proc_lang.specs.declared.fault.ProgError.TheVariants.{Bad, Memory}
use Rattle.proc_lang.specs.declared.syntax.WrittenVariable.{WrittenVariable}
use Rattle.proc_lang.specs.Writing.{variable_of}

-- the error is the first of these faults, or memory ran out
abbrev pub IsFirst : ProgError → List ProgFault → Type 0
IsFirst (Bad fault) faults = slice_get faults 0 ≡ Some fault
IsFirst Memory faults = Unit {0}

-- The result of a check that finds these faults: there are none and the value has this property, or the error is the first of them.
abbrev pub Checks : {X : Type 0} → Result X ProgError → List ProgFault → (X → Type 0) → Type 0
Checks (Ok x) faults is_so = (faults ≡ []) × is_so x
Checks (Err e) faults is_so = IsFirst e faults

-- variables with their initial values: of the code, and of a parsed program
abbrev pub starts : List Variable → List (List ℕ × ℤ)
starts variables = map (λ variable. (variable.name, variable.start)) variables

abbrev pub written_starts : List WrittenVariable → List (List ℕ × ℤ)
written_starts variables = map (λ variable. (variable.name.name, variable.start)) (map variable_of variables)
