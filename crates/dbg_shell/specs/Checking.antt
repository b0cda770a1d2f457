-- The output of the check of a program text.
use Rattle.std.specs.Prelude.{◌≡◌, ℕ, List, Option, Some, None, ◌⊎◌}
use Rattle.dbg_base.specs.Trees.{Program}
use Rattle.dbg_base.specs.declared.fault.ProgFault.{ProgFault}
use Rattle.dbg_base.specs.Checks.{Reads, IsFault}
use Rattle.dbg_base.specs.Shell.{too_long_text, fault_text}
use Rattle.shell_print.specs.Closings.{program_size_text}
use Rattle.shell_print.specs.declared.outcome.Served.{Served}
use Rattle.shell_print.specs.declared.outcome.Served.TheVariants.{Done, Refused, TooLong}
use Rattle.shell_serve.specs.ProgramTexts.{alone_text}

-- the text is a program, and its size was written
abbrev pub TellsSize : List ℕ → Served → List ℕ → Type 0
TellsSize text served out =
    (P : Program) × Reads text P × (served ≡ Done) × (out ≡ program_size_text P)

-- the text is not a program, and its first fault was written
abbrev pub TellsFault : List ℕ → Served → List ℕ → Type 0
TellsFault text served out = (fault : ProgFault) × IsFault text fault × (served ≡ Refused) × (out ≡ fault_text fault)

-- the output of the check of a text
abbrev pub ChecksText : List ℕ → Served → List ℕ → Type 0
ChecksText text served out = TellsSize text served out ⊎ TellsFault text served out

abbrev pub TellsTooLong : Served → List ℕ → Type 0
TellsTooLong served out = (served ≡ TooLong) × (out ≡ too_long_text)

-- the output of the check of a text, or of input that is too long
abbrev pub ChecksAlone : Option (List ℕ) → Served → List ℕ → Type 0
ChecksAlone (Some text) served out = ChecksText text served out
ChecksAlone None served out = TellsTooLong served out

abbrev pub ChecksInput : List ℕ → Served → List ℕ → Type 0
ChecksInput input served out = ChecksAlone (alone_text input) served out
