-- The output of the shell for its input.
use Rattle.std.specs.Prelude.{◌≡◌, ℕ, Bool, List, [], ◌∷◌, ◌++◌, length, take, Option, Some, None, Result, Ok, Err, ◌==◌, nat_lt}
use Rattle.std.specs.Prelude.{if◌then◌else◌, ◌⊎◌, codes}
use Rattle.std.specs.Option.{option_map}
use Rattle.std.specs.Str.{bytes_eq}
use Rattle.std.specs.Fmt.{decimal}
use Rattle.dbg_base.specs.declared.said.Said.{Said}
use Rattle.dbg_base.specs.declared.refusal.Refusal.{Refusal}
use Rattle.dbg_base.specs.declared.limits.TheConstants.{INPUT_BYTES}
use Rattle.dbg_base.specs.Trees.{Program}
use Rattle.dbg_base.specs.declared.fault.ProgFault.{ProgFault}
use Rattle.dbg_base.specs.Faults.{kind_number}
use Rattle.dbg_base.specs.Checks.{Reads, IsFault}
use Rattle.dbg_base.specs.Journals.{Journal, Makes, IsLegal}
use Rattle.dbg_base.specs.CommandLines.{Request, without_return}
use Rattle.dbg_base.specs.Requests.{AsksOrRefuses}
use Rattle.dbg_base.specs.Replies.{joined, reply_text, refusal_text}

-- The whole lines of some bytes, without their line ends, and the bytes after the last line end.
pub record Lines : Type 0 where
  pub whole : List (List ℕ)
  pub rest : List ℕ

-- a byte before these whole lines and this rest
abbrev pub byte_before : ℕ → List (List ℕ) → List ℕ → Lines
byte_before b [] rest = record { whole = []; rest = b ∷ rest }
byte_before b (line ∷ whole) rest = record { whole = (b ∷ line) ∷ whole; rest = rest }

-- the lines with one more byte before them; a line end makes an empty first line
abbrev pub with_prefix : ℕ → Lines → Lines
with_prefix b lines =
    if b == 10 then record { whole = [] ∷ lines.whole; rest = lines.rest } else byte_before b lines.whole lines.rest

abbrev pub lines_of : List ℕ → Lines
lines_of [] = record { whole = []; rest = [] }
lines_of (b ∷ bytes) = with_prefix b (lines_of bytes)

-- whether the input is longer than its limit
abbrev pub is_too_long : List ℕ → Bool
is_too_long input = nat_lt INPUT_BYTES (length input)

-- the bytes after the last line end are a last line, if there are any
abbrev pub last_line : List ℕ → List (List ℕ)
last_line [] = []
last_line (b ∷ bytes) = (b ∷ bytes) ∷ []

-- the whole lines, and then the last line
abbrev pub all_lines : Lines → List (List ℕ)
all_lines lines = lines.whole ++ last_line lines.rest

-- The lines that are read within a limit: those that end within it, and a last line without an end if all bytes are within it.
abbrev pub lines_within : ℕ → List ℕ → List (List ℕ)
lines_within limit bytes =
    if nat_lt limit (length bytes) then (lines_of (take limit bytes)).whole else all_lines (lines_of bytes)

-- the lines of the input that are read
abbrev pub read_lines : List ℕ → List (List ℕ)
read_lines input = lines_within INPUT_BYTES input

-- the program text, and the lines after its end line
pub record Parts : Type 0 where
  pub program : List ℕ
  pub commands : List (List ℕ)

-- the line that ends a program text
abbrev pub is_end_line : List ℕ → Bool
is_end_line line = bytes_eq (without_return line) (codes "%%")

abbrev pub line_before : List ℕ → Parts → Parts
line_before line parts = record parts { program = line ++ 10 ∷ [] ++ parts.program }

-- the lines before the first end line are the program text, and those after it are command lines
abbrev pub parts_of : List (List ℕ) → Option Parts
parts_of [] = None
parts_of (line ∷ lines) =
    if is_end_line line then Some (record { program = []; commands = lines }) else option_map (line_before line) (parts_of lines)

-- a text as a line
abbrev pub as_line : List ℕ → List ℕ
as_line text = text ++ 10 ∷ []

-- the output for a parsed line after the journal J, and the journal after it
abbrev pub AnswersParsed : Program → Result (Option Request) Refusal → Journal → List ℕ → Journal → Type 0
AnswersParsed P (Err refusal) J out J' = (out ≡ as_line (refusal_text P refusal)) × (J' ≡ J)
AnswersParsed P (Ok None) J out J' = (out ≡ []) × (J' ≡ J)
AnswersParsed P (Ok (Some request)) J out J' =
    (said : Said) × Makes P J request.seat request.call said J' × (out ≡ as_line (reply_text P request.call said))

abbrev pub AnswersLine : Program → List ℕ → Journal → List ℕ → Journal → Type 0
AnswersLine P line J out J' =
    (asked : Result (Option Request) Refusal) × AsksOrRefuses P line asked × AnswersParsed P asked J out J'

-- the output for these lines after the journal J, and the journal after them
abbrev pub AnswersLines : Program → List (List ℕ) → Journal → List ℕ → Journal → Type 0
AnswersLines P [] J out J' = (out ≡ []) × (J' ≡ J)
AnswersLines P (line ∷ lines) J out J' =
    (first others : List ℕ) × (between : Journal) × AnswersLine P line J first between
    × AnswersLines P lines between others J' × (out ≡ first ++ others)

abbrev pub too_long_text : List ℕ
too_long_text = as_line (codes "input too long")

-- the output at the end of the input
abbrev pub end_text : List ℕ → List ℕ
end_text input = if is_too_long input then too_long_text else []

-- the message if no line ends the program text
abbrev pub no_end_line_text : List ℕ
no_end_line_text = as_line (codes "program refused: no end line")

-- the output if no end line was read
abbrev pub no_end_text : List ℕ → List ℕ
no_end_text input = if is_too_long input then too_long_text else no_end_line_text

-- the message for a fault of a program
abbrev pub fault_text : ProgFault → List ℕ
fault_text fault = as_line (joined (codes "program refused" ∷ decimal (kind_number fault.kind) ∷ codes "at" ∷ decimal fault.at ∷ []))

-- the message with the numbers of processes and commands of a program
abbrev pub size_text : ℕ → ℕ → List ℕ
size_text processes commands =
    as_line (joined (codes "ok" ∷ decimal processes ∷ codes "processes" ∷ decimal commands ∷ codes "commands" ∷ []))

-- the output for these lines from the opening state on, if their calls are a legal journal
abbrev pub AnswersAll : Program → List (List ℕ) → List ℕ → Type 0
AnswersAll P lines out = (J : Journal) × AnswersLines P lines [] out J × IsLegal P J

-- the program was accepted, and each line after it was answered
abbrev pub AnswersCommands : List ℕ → Parts → List ℕ → Type 0
AnswersCommands input parts out =
    (P : Program) × Reads parts.program P × (replies : List ℕ) × AnswersAll P parts.commands replies × (out ≡ replies ++ end_text input)

-- the program was refused, and the fault is the only output
abbrev pub RefusesProgram : Parts → List ℕ → Type 0
RefusesProgram parts out = (fault : ProgFault) × IsFault parts.program fault × (out ≡ fault_text fault)

abbrev pub TextOfParts : List ℕ → Option Parts → List ℕ → Type 0
TextOfParts input None out = out ≡ no_end_text input
TextOfParts input (Some parts) out = AnswersCommands input parts out ⊎ RefusesProgram parts out

-- the output for a part of the input: the replies to the lines after the program text, or nothing if no line ends it
abbrev pub AnswersParts : Option Parts → List ℕ → Type 0
AnswersParts None out = out ≡ []
AnswersParts (Some parts) out = (P : Program) × Reads parts.program P × AnswersAll P parts.commands out

-- the output if no more than these bytes of the input can be read: the replies to the whole lines among them
abbrev pub WholeText : List ℕ → List ℕ → Type 0
WholeText bytes out = AnswersParts (parts_of (lines_of bytes).whole) out

-- the output for the input
abbrev pub Text : List ℕ → List ℕ → Type 0
Text input out = TextOfParts input (parts_of (read_lines input)) out
