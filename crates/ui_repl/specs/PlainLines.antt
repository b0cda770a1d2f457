-- Which lines are played for a line of a plain session.
use Rattle.std.specs.Prelude.{◌≡◌, ◌⊎◌, ℕ, ◌-◌, ◌==◌, ◌&&◌, ◌||◌, nat_le, nat_lt, Bool, true, false, not, List, [], ◌∷◌, ◌++◌, length, take, drop}
use Rattle.std.specs.Prelude.{Option, Some, None, codes, if◌then◌else◌}
use Rattle.std.specs.Bool.{MatchBool}
use Rattle.std.specs.declared.vec.Vec.{Vec}
use Rattle.std.specs.declared.alloc.Global.{Global}
use Rattle.std.specs.Option.{option_and_then}
use Rattle.std.specs.List.{list_any, prefix_len, suffix_len, starts_with}
use Rattle.std.specs.Char.{is_ascii_whitespace}
use Rattle.std.specs.Str.{bytes_eq}
use Rattle.std.specs.Str.Parse.{digits_value}
use Rattle.dbg_base.specs.declared.limits.TheConstants.{CALLS, LINE_BYTES}
use Rattle.dbg_base.specs.Tokens.{is_digit, is_numeral}
use Rattle.dbg_base.specs.CommandLines.{next_word, after_word, without_return}
use Rattle.ui_session.specs.Dialogues.{is_remark, first_word}

-- the words of commands and queries
abbrev pub command_words : List (List ℕ)
command_words =
    codes "step" ∷ codes "next" ∷ codes "undo" ∷ codes "redo" ∷ codes "rollback" ∷ codes "break" ∷ codes "goto" ∷ codes "clear"
    ∷ codes "pass" ∷ codes "arm" ∷ codes "batch" ∷ codes "back" ∷ codes "breaks" ∷ codes "cut" ∷ codes "why" ∷ codes "vars"
    ∷ codes "chan" ∷ codes "clock" ∷ codes "place" ∷ codes "can" ∷ []

-- a line without its seat, if it has one
abbrev pub without_seat : List ℕ → List ℕ
without_seat line = if is_numeral (next_word line) then after_word line else line

-- the word of its command, and what follows it
abbrev pub command_word : List ℕ → List ℕ
command_word line = next_word (without_seat (without_return line))

abbrev pub arguments : List ℕ → List ℕ
arguments line = after_word (without_seat (without_return line))

-- the bytes without the blanks at their end
abbrev pub trimmed : List ℕ → List ℕ
trimmed bytes = take (length bytes - suffix_len is_ascii_whitespace bytes) bytes

-- a line without the comment at its end, which begins with `#`, and without the blanks before it
abbrev pub without_comment : List ℕ → List ℕ
without_comment line =
    let n = prefix_len (λ byte. not (byte == 35)) line in if nat_lt n (length line) then trimmed (take n line) else line

-- a line that is played, and how often it is played again at most
pub record PlainLine : Type 0 where
  pub text : List ℕ
  pub again : ℕ

-- the line, which is not played again
abbrev pub once : List ℕ → PlainLine
once line = record { text = line; again = 0 }

-- a number of times: from 1 to the most calls that a session has
abbrev pub times_in_range : ℕ → Option ℕ
times_in_range n = if nat_le 1 n && nat_le n CALLS then Some n else None

-- a number of one to six digits
abbrev pub number_of : List ℕ → Option ℕ
number_of word = if is_numeral word && nat_le (length word) 6 then Some (digits_value 10 word) else None

abbrev pub times_of : List ℕ → Option ℕ
times_of word = option_and_then times_in_range (number_of word)

abbrev pub is_empty : List ℕ → Bool
is_empty [] = true
is_empty (byte ∷ bytes) = false

-- the number after a process, if nothing follows it
abbrev pub times_after : List ℕ → Option ℕ
times_after bytes =
    if not (is_empty (next_word bytes)) && is_empty (next_word (after_word (after_word bytes))) then times_of (next_word (after_word bytes))
    else None

abbrev pub repeat_by : List ℕ → Option ℕ → PlainLine
repeat_by line None = once line
repeat_by line (Some times) = record {
  text = take (length (without_return line) - length (after_word (arguments line))) line;
  again = times - 1;
}

-- `next P N` is N times `next P`
abbrev pub repeated : List ℕ → PlainLine
repeated line =
    repeat_by line (if nat_le (length line) LINE_BYTES && bytes_eq (command_word line) (codes "next") then times_after (arguments line) else None)

-- the line with this word in place of that of its command, which follows so many bytes
abbrev pub with_command : ℕ → List ℕ → List ℕ → List ℕ
with_command head line word =
    let part = drop head line in
    let end = length (without_return line) - length (arguments part) in
    take (end - length (command_word part)) line ++ word ++ drop end line

-- A line with the word of a command stays as it is. Of another one the word may be the start of a longer word, which is played.
abbrev pub IsCompleted : ℕ → List ℕ → List ℕ → Type 0
IsCompleted head line whole =
    let word = command_word (drop head line) in
    MatchBool (list_any (bytes_eq word) command_words) (whole ≡ line)
    ((whole ≡ line) ⊎ ((longer : List ℕ) × (starts_with (λ a b. a == b) longer word ≡ true) × (whole ≡ with_command head line longer)))

-- the line that was made, or this one
abbrev pub completed_or : List ℕ → Option (Vec ℕ Global) → List ℕ
completed_or line None = line
completed_or line (Some made) = made.items

-- the line has more bytes than a command line, or is blank, a comment or an expected reply
abbrev pub is_kept : List ℕ → Bool
is_kept line = nat_lt LINE_BYTES (length line) || is_remark (first_word line)

-- the part of a line that is played
abbrev pub bare : List ℕ → List ℕ
bare line = if is_kept line then line else without_comment line

-- A line of a plain session is played without its comment, completed, and repeated if it says so.
abbrev pub IsPlayed : List ℕ → PlainLine → Type 0
IsPlayed line played =
    MatchBool (nat_lt LINE_BYTES (length line) || is_remark (first_word (bare line))) (played ≡ once (bare line))
    ((whole : List ℕ) × IsCompleted 0 (bare line) whole × (played ≡ repeated whole))

-- the line is this one, or this one after a seat of one digit
abbrev pub IsSeated : List ℕ → List ℕ → Type 0
IsSeated line command = (line ≡ command) ⊎ ((seat : ℕ) × (is_digit seat ≡ true) × (line ≡ seat ∷ 32 ∷ command))

-- it is one of the frequent commands, with this name
abbrev pub IsFrequent : List ℕ → List ℕ → Type 0
IsFrequent line name = (line ≡ codes "next " ++ name) ⊎ (line ≡ codes "undo " ++ name) ⊎ (line ≡ codes "redo " ++ name)
