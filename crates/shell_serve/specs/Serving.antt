-- What `serve` does with an input.
use Rattle.std.specs.Prelude.{◌≡◌, ℕ, ◌≤◌, List, ◌++◌, length, Option, Some, None, ◌⊎◌, if◌then◌else◌}
use Rattle.dbg_base.specs.declared.limits.TheConstants.{INPUT_BYTES}
use Rattle.dbg_base.specs.Trees.{Program}
use Rattle.dbg_base.specs.Checks.{Reads, IsFault}
use Rattle.dbg_base.specs.Shell.{Parts, parts_of, read_lines, is_too_long, WholeText, Text}
use Rattle.dbg_base.specs.declared.fault.ProgFault.{ProgFault}
use Rattle.shell_io.specs.Seen.{Seen}
use Rattle.shell_print.specs.declared.outcome.Served.{Served}
use Rattle.shell_print.specs.declared.outcome.Served.TheVariants.{Done, Refused, TooLong}
use Rattle.shell_serve.specs.Written.{WritesSome}

-- the result of a run whose program was read
abbrev pub end_of : List ℕ → Served
end_of input = if is_too_long input then TooLong else Done

-- the result of a run whose program text has no end
abbrev pub unended : List ℕ → Served
unended input = if is_too_long input then TooLong else Refused

-- A run over the input ends like this, by whether the program text before the line `%%` is a program or has a fault.
abbrev pub EndsParts : List ℕ → Option Parts → Served → Type 0
EndsParts input None served = served ≡ unended input
EndsParts input (Some parts) served =
    ((P : Program) × Reads parts.program P × (served ≡ end_of input))
    ⊎ ((fault : ProgFault) × IsFault parts.program fault × (served ≡ Refused))

abbrev pub EndsInput : List ℕ → Served → Type 0
EndsInput input = EndsParts input (parts_of (read_lines input))

-- the result and the output of the run are those of the input
abbrev pub ServesInput : List ℕ → Served → List ℕ → Type 0
ServesInput input served out = EndsInput input served × Text input out

-- The reader failed after some bytes of the input, at most as many as an input may have. The replies to the whole lines among these bytes
-- were written.
abbrev pub BreaksInput : List ℕ → Option (List ℕ) → Seen → Seen → Type 0
BreaksInput input left old new =
    (bytes rest : List ℕ) × (left ≡ Some rest) × (input ≡ bytes ++ rest) × (length bytes ≤ INPUT_BYTES)
    × WritesSome old new (WholeText bytes)
