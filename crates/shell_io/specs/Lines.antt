-- Inputs one after the other, each of whole lines.
use Rattle.std.specs.Prelude.{ℕ, ◌==◌, if◌then◌else◌, List, [], ◌∷◌, ◌++◌, Option}
use Rattle.std.specs.Option.{option_map}
use Rattle.std.specs.Fmt.{option_append}
use Rattle.shell_io.specs.declared.closed_lines.ClosedLines.{ClosedLines}

-- the last of these bytes, or `last` if there is none
abbrev pub last_byte : ℕ → List ℕ → ℕ
last_byte last [] = last
last_byte last (byte ∷ bytes) = last_byte byte bytes

-- these bytes, which follow the byte `last`, with a line end if the last byte of all is not one
abbrev pub closed_after : ℕ → List ℕ → List ℕ
closed_after last bytes = bytes ++ (if last_byte last bytes == 10 then [] else 10 ∷ [])

-- these bytes, with a line end if there are any and they do not end with one
abbrev pub with_line_end : Option (List ℕ) → Option (List ℕ)
with_line_end known = option_map (closed_after 10) known

-- what is left to read of a reader whose last line is ended
abbrev pub closed_remaining : {R : Type 0} → (R → Option (List ℕ)) → ClosedLines R → Option (List ℕ)
closed_remaining remaining lines = option_map (closed_after lines.last) (remaining lines.reader)

-- all bytes of the first, as whole lines, and then those of the second
abbrev pub inputs_in_order : Option (List ℕ) → Option (List ℕ) → Option (List ℕ)
inputs_in_order first second = option_append (with_line_end first) second
