-- The manner of an interactive session.
use Rattle.std.specs.Prelude.{◌≡◌, ◌⊎◌, ◌==◌, ◌&&◌, ◌||◌, ℕ, Bool, true, false, not, List, [], ◌∷◌, ◌++◌, Some, None, codes, if◌then◌else◌}
use Rattle.std.specs.List.{AllByRecursion, list_any, flat_map}
use Rattle.std.specs.Str.{bytes_eq}
use Rattle.dbg_base.specs.Tokens.{is_digit}
use Rattle.dbg_base.specs.CommandLines.{next_word, after_word, without_return}
use Rattle.dbg_base.specs.Shell.{as_line}
use Rattle.shell_serve.specs.Spans.{is_unended}
use Rattle.shell_serve.specs.Sources.{Given}
use Rattle.shell_serve.specs.Sessions.{Manner}

-- the words that end a session
abbrev pub quit_words : List (List ℕ)
quit_words = codes "quit" ∷ codes "exit" ∷ codes "q" ∷ []

-- the words of directives
abbrev pub directive_words : List (List ℕ)
directive_words =
    codes "help" ∷ codes "?" ∷ codes "on" ∷ codes "list" ∷ codes "state" ∷ codes "line" ∷ codes "how" ∷ codes "from" ∷ codes "draw"
    ∷ codes "session" ∷ quit_words

-- there is no word, or it begins a comment or an expectation
abbrev pub is_remark : List ℕ → Bool
is_remark [] = true
is_remark (byte ∷ bytes) = (byte == 35) || (byte == 62)

abbrev pub first_word : List ℕ → List ℕ
first_word line = next_word (without_return line)

-- the interactive session answers the line itself
abbrev pub is_directive : List ℕ → Bool
is_directive line = is_remark (first_word line) || list_any (bytes_eq (first_word line)) directive_words

abbrev pub is_seat : List ℕ → Bool
is_seat [] = false
is_seat (byte ∷ bytes) = is_digit byte

-- the line may be that of a command, and has no seat
abbrev pub needs_seat : List ℕ → Bool
needs_seat line = not (is_seat (first_word line))

-- the line with its own seat, or with the first seat if it has none
abbrev pub with_seat : List ℕ → List ℕ
with_seat line = if needs_seat line then codes "1 " ++ line else line

-- a line of an explanation, which begins with two blanks
abbrev pub explanation_line : List ℕ → List ℕ
explanation_line line = codes "  " ++ as_line line

abbrev pub explanation_text : List (List ℕ) → List ℕ
explanation_text lines = flat_map explanation_line lines

abbrev pub IsExplanation : List ℕ → Type 0
IsExplanation text = (lines : List (List ℕ)) × AllByRecursion (λ line. is_unended line ≡ true) lines × (text ≡ explanation_text lines)

-- a blank line, or nothing
abbrev pub IsGap : List ℕ → Type 0
IsGap gap = (gap ≡ []) ⊎ (gap ≡ as_line [])

-- nothing, or the line itself, which may come after a blank line
abbrev pub IsEcho : List ℕ → List ℕ → Type 0
IsEcho line echo = (echo ≡ []) ⊎ ((gap : List ℕ) × IsGap gap × (echo ≡ gap ++ as_line line))

-- nothing, or the line that was given, without a carriage return at its end; or, if memory ran out for it, a line
abbrev pub IsEchoOf : Given → List ℕ → Type 0
IsEchoOf (Some line) echo = IsEcho (without_return line) echo
IsEchoOf None echo = (line : List ℕ) × IsEcho line echo

-- the line ends the session: nothing but a remark is after its first word
abbrev pub is_quit : List ℕ → Bool
is_quit line = list_any (bytes_eq (first_word line)) quit_words && is_remark (next_word (after_word (without_return line)))

-- Each line is written before its reply, if it was not typed, and an explanation follows the reply. A command line without a seat is one of
-- the first seat.
abbrev pub interactive : Manner
interactive = record {
  before = IsEchoOf;
  is_directive = is_directive;
  seated = with_seat;
  explains = IsExplanation;
  ends = is_quit;
}
