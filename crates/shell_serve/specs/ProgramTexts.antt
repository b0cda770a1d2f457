-- Where the program text ends, and what is read for it.
use Rattle.std.specs.Prelude.{◌≡◌, ◌+◌, ◌≤◌, ℕ, Bool, true, false, List, ◌++◌, length, take, drop, slice_range, Option, Some, None}
use Rattle.std.specs.Prelude.{if◌then◌else◌, ◌⊎◌}
use Rattle.dbg_base.specs.declared.limits.TheConstants.{INPUT_BYTES}
use Rattle.dbg_base.specs.Shell.{Parts, lines_of, parts_of, read_lines, is_too_long}
use Rattle.shell_serve.specs.declared.framing.TheConstants.{CHUNK}
use Rattle.shell_serve.specs.declared.program_text.TextEnd.{TextEnd}
use Rattle.shell_serve.specs.declared.program_text.TextEnd.TheVariants.{Before, End}
use Rattle.shell_serve.specs.declared.program_text.TextEnd.TheVariants as ends
use Rattle.shell_serve.specs.Spans.{lines_from, MayBe}

-- At most one byte more than the limit was read.
abbrev pub ReadsFew : List ℕ → Option (List ℕ) → Type 0
ReadsFew input left = (bytes rest : List ℕ) × (left ≡ Some rest) × (input ≡ bytes ++ rest) × (length bytes ≤ INPUT_BYTES + 1)

-- The bytes from a position on were read for the program text: before each read no line ended the text, and the last read gave few bytes.
abbrev pub ReadsText : List ℕ → ℕ → List ℕ → Type 0
ReadsText old from new =
    (new ≡ old)
    ⊎ ((prefix last : List ℕ) × (new ≡ prefix ++ last) × (length last ≤ CHUNK) × (parts_of (lines_of (drop from prefix)).whole ≡ None))

-- Only the program text was read: before the last read no line ended the text, and the last read gave few bytes.
abbrev pub ReadsProgram : List ℕ → Option (List ℕ) → Type 0
ReadsProgram input left =
    (prefix last rest : List ℕ) × (left ≡ Some rest) × (input ≡ prefix ++ last ++ rest) × (length last ≤ CHUNK)
    × (parts_of (lines_of prefix).whole ≡ None)

-- the parts with a text before the program text
abbrev pub with_text : List ℕ → Parts → Parts
with_text text parts = record parts { program = text ++ parts.program }

-- The program text from a position on is the bytes up to the line that ends it, and the command lines are those from the new position on;
-- or no line ends it.
abbrev pub Splits : List ℕ → List ℕ → ℕ → ℕ → TextEnd → Type 0
Splits input bytes at new (Before span) =
    (parts_of (lines_from at input) ≡ Some (record { program = slice_range bytes at span.from; commands = lines_from new input }))
    × (span.from ≤ length bytes)
Splits input bytes at new ends.End = (parts_of (lines_from at input) ≡ None) × (is_too_long input ≡ false)
Splits input bytes at new ends.TooLong = (parts_of (lines_from at input) ≡ None) × (is_too_long input ≡ true)

-- the same for each possible input
abbrev pub SplitsAny : List ℕ → Bool → ℕ → ℕ → TextEnd → Type 0
SplitsAny bytes ended at new end = (input : List ℕ) → MayBe bytes ended input → Splits input bytes at new end

-- A program text alone: what is before the first end line, or all of the input. None if the input is too long.
abbrev pub alone_of : List ℕ → Option Parts → Option (List ℕ)
alone_of input (Some parts) = Some parts.program
alone_of input None = if is_too_long input then None else Some input

abbrev pub alone_text : List ℕ → Option (List ℕ)
alone_text input = alone_of input (parts_of (read_lines input))

-- the same for the bytes that were read, with this end of the text
abbrev pub IsTextAt : List ℕ → TextEnd → Option (List ℕ) → Type 0
IsTextAt bytes (Before span) text = span.from ≤ length bytes → text ≡ Some (take span.from bytes)
IsTextAt bytes End text = text ≡ Some bytes
IsTextAt bytes ends.TooLong text = text ≡ None
