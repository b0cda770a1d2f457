-- Command lines: what a line asks for, or why it is refused.
use Rattle.std.specs.Prelude.{ℕ, zero, suc, ◌+◌, ◌-◌, Bool, true, false, ◌&&◌, ◌||◌, ◌==◌, List, [], ◌∷◌, length, drop, Option, Some}
use Rattle.std.specs.Prelude.{None, ok_or, Result, Ok, Err, nat_le}
use Rattle.std.specs.Prelude.{codes, if◌then◌else◌}
use Rattle.std.specs.Option.{option_map, option_and_then}
use Rattle.std.specs.Str.{bytes_eq}
use Rattle.std.specs.Str.Parse.{digits_value}
use Rattle.dbg_base.specs.declared.refusal.Refusal.{Refusal}
use Rattle.dbg_base.specs.declared.refusal.Refusal.TheVariants.{UnknownProcess, BadLine}
use Rattle.dbg_base.specs.declared.limits.TheConstants.{NAME_BYTES, SEATS}
use Rattle.dbg_base.specs.Names.{place_of}
use Rattle.dbg_base.specs.Calls.{Call, Give, One, Plan, Step, Next, Undo, Redo, Rollback, Goto, Clear, Arm, Pass, Back}
use Rattle.dbg_base.specs.Calls.{Ask, Vars, Chan, Clock, Place, Can, CutOf, Why, Breaks}
use Rattle.dbg_base.specs.Trees.{Program, names_of}
use Rattle.dbg_base.specs.Tokens.{is_word, is_numeral}

-- a blank or a tab
abbrev pub is_blank : ℕ → Bool
is_blank b = (b == 32) || (b == 9)

-- the byte is put before the first word
abbrev pub before_first_word : ℕ → List (List ℕ) → List (List ℕ)
before_first_word b [] = (b ∷ []) ∷ []
before_first_word b (word ∷ words) = (b ∷ word) ∷ words

-- a nonblank byte is a word of its own if a blank or nothing follows; otherwise it begins the first word of what follows
abbrev pub with_byte : ℕ → List ℕ → List (List ℕ) → List (List ℕ)
with_byte b [] words = (b ∷ []) ∷ words
with_byte b (c ∷ bytes) words = if is_blank c then (b ∷ []) ∷ words else before_first_word b words

-- the words of a line: its longest runs of bytes that are not blank
abbrev pub words_of : List ℕ → List (List ℕ)
words_of [] = []
words_of (b ∷ bytes) = if is_blank b then words_of bytes else with_byte b bytes (words_of bytes)

-- the line without a carriage return at its end
abbrev pub without_return : List ℕ → List ℕ
without_return [] = []
without_return (b ∷ []) = if b == 13 then [] else b ∷ []
without_return (b ∷ c ∷ bytes) = b ∷ without_return (c ∷ bytes)

-- a number: one to nine digits
abbrev pub number_word : List ℕ → Option ℕ
number_word word = if is_numeral word && nat_le (length word) 9 then Some (digits_value 10 word) else None

-- a seat: a number from 1 to 16
abbrev pub seat_in_range : ℕ → Option ℕ
seat_in_range n = if nat_le 1 n && nat_le n SEATS then Some n else None

abbrev pub seat_word : List ℕ → Option ℕ
seat_word word = option_and_then seat_in_range (number_word word)

-- a name: a letter, and then letters, digits and `_`, at most 32 bytes; reserved words are allowed here
abbrev pub name_word : List ℕ → Option (List ℕ)
name_word word = if is_word word && nat_le (length word) NAME_BYTES then Some word else None

-- continues with the value, unless there is an error
abbrev pub map_ok : {X Y E : Type 0} → (X → Y) → Result X E → Result Y E
map_ok f (Ok x) = Ok (f x)
map_ok f (Err e) = Err e

-- the call that gives this command
abbrev pub give : Plan → Call
give plan = Give (One plan)

-- a process by its name
abbrev pub named_process : Program → List ℕ → Result ℕ Refusal
named_process P name = ok_or (place_of name (names_of P)) UnknownProcess

-- the call of a command word about a process
abbrev pub process_call : List ℕ → Result ℕ Refusal → Result Call Refusal
process_call word process =
    if bytes_eq word (codes "next") then map_ok (λ p. give (Next p)) process
    else (if bytes_eq word (codes "undo") then map_ok (λ p. give (Undo p)) process
    else (if bytes_eq word (codes "redo") then map_ok (λ p. give (Redo p)) process
    else (if bytes_eq word (codes "vars") then map_ok (λ p. Ask (Vars p)) process
    else (if bytes_eq word (codes "clock") then map_ok (λ p. Ask (Clock p)) process
    else (if bytes_eq word (codes "place") then map_ok (λ p. Ask (Place p)) process
    else (if bytes_eq word (codes "can") then map_ok (λ p. Ask (Can p)) process
    else Err BadLine))))))

-- the call of a command word about a breakpoint
abbrev pub break_call : List ℕ → List ℕ → Option Call
break_call word name =
    if bytes_eq word (codes "goto") then Some (give (Goto name))
    else (if bytes_eq word (codes "clear") then Some (give (Clear name))
    else (if bytes_eq word (codes "arm") then Some (give (Arm name))
    else (if bytes_eq word (codes "pass") then Some (give (Pass name))
    else (if bytes_eq word (codes "cut") then Some (Ask (CutOf name))
    else (if bytes_eq word (codes "why") then Some (Ask (Why name))
    else None)))))

-- the call of a command word with one name, of a breakpoint or of a process
abbrev pub named_call : Program → List ℕ → List ℕ → Option Call → Result Call Refusal
named_call P word name (Some call) = Ok call
named_call P word name None = process_call word (named_process P name)

-- continues with the value of a word; a word without one is a syntax error
abbrev pub with_word : {X : Type 0} → Option X → (X → Result Call Refusal) → Result Call Refusal
with_word None go = Err BadLine
with_word (Some x) go = go x

-- continues with two processes; the refusal is that of the first missing one
abbrev pub with_both : (ℕ → ℕ → Call) → Result ℕ Refusal → Result ℕ Refusal → Result Call Refusal
with_both call (Err refusal) second = Err refusal
with_both call (Ok first) second = map_ok (call first) second

-- `step`: the process makes the command of this number
abbrev pub step_call : Program → List ℕ → List ℕ → Result Call Refusal
step_call P process choice = with_word (number_word choice) (λ k. map_ok (λ p. give (Step p k)) (named_process P process))

-- `rollback`: the process goes back to this number of events
abbrev pub rollback_call : Program → List ℕ → List ℕ → Result Call Refusal
rollback_call P process place = with_word (number_word place) (λ n. map_ok (λ p. give (Rollback p n)) (named_process P process))

-- `chan`: the messages from one process to another
abbrev pub chan_call : Program → List ℕ → List ℕ → Result Call Refusal
chan_call P source target =
    with_word (name_word target) (λ name. with_both (λ i j. Ask (Chan i j)) (named_process P source) (named_process P name))

-- the call of a command word with two arguments: a process with a command or a place, or a sender and a receiver
abbrev pub pair_call : Program → List ℕ → List ℕ → List ℕ → Result Call Refusal
pair_call P word first second =
    if bytes_eq word (codes "step") then step_call P first second
    else (if bytes_eq word (codes "rollback") then rollback_call P first second
    else (if bytes_eq word (codes "chan") then chan_call P first second
    else Err BadLine))

-- the call of a command word without arguments
abbrev pub lone_call : List ℕ → Result Call Refusal
lone_call word =
    if bytes_eq word (codes "back") then Ok Back
    else (if bytes_eq word (codes "breaks") then Ok (Ask Breaks)
    else Err BadLine)

-- The call of a command word and its arguments. The shape of all of them is checked first, and then what they name.
abbrev pub call_of_words : Program → List ℕ → List (List ℕ) → Result Call Refusal
call_of_words P word [] = lone_call word
call_of_words P word (argument ∷ []) = with_word (name_word argument) (λ name. named_call P word name (break_call word name))
call_of_words P word (first ∷ second ∷ []) = with_word (name_word first) (λ name. pair_call P word name second)
call_of_words P word arguments = Err BadLine

-- a call, and the seat that makes it
pub record Request : Type 0 where
  pub seat : ℕ
  pub call : Call

-- A command that sets a breakpoint: all bytes of a predicate count, also blanks.

-- the bytes without the blanks at their beginning
abbrev pub without_blanks : List ℕ → List ℕ
without_blanks [] = []
without_blanks (b ∷ bytes) = if is_blank b then without_blanks bytes else b ∷ bytes

-- the bytes before the first blank
abbrev pub word_prefix : List ℕ → List ℕ
word_prefix [] = []
word_prefix (b ∷ bytes) = if is_blank b then [] else b ∷ word_prefix bytes

-- the first word, which may be empty, and the bytes after it
abbrev pub next_word : List ℕ → List ℕ
next_word bytes = word_prefix (without_blanks bytes)

abbrev pub after_word : List ℕ → List ℕ
after_word bytes = drop (length (next_word bytes)) (without_blanks bytes)

-- The bytes up to the parenthesis that closes all open ones, of which `depth` are open already; all bytes if none closes them.
abbrev pub closed_prefix : ℕ → List ℕ → List ℕ
closed_prefix depth [] = []
closed_prefix depth (b ∷ bytes) =
    if b == 40 then b ∷ closed_prefix (depth + 1) bytes
    else (if b == 41 then (if nat_le depth 1 then b ∷ [] else b ∷ closed_prefix (depth - 1) bytes)
    else b ∷ closed_prefix depth bytes)

-- the text of a predicate at the beginning of these bytes
abbrev pub predicate_prefix : List ℕ → List ℕ
predicate_prefix [] = []
predicate_prefix (b ∷ bytes) = if b == 40 then closed_prefix 0 (b ∷ bytes) else word_prefix (b ∷ bytes)

-- the bytes are empty or begin with a blank
abbrev pub is_apart : List ℕ → Bool
is_apart [] = true
is_apart (b ∷ bytes) = is_blank b

-- the name of a process, and the text of its predicate
abbrev pub Part : Type 0
Part = List ℕ × List ℕ

abbrev pub with_part : Part → Option (List Part) → Option (List Part)
with_part part parts = option_map (λ others. part ∷ others) parts

-- the first part, if its process has a name and its text is not empty, and then the parts of the bytes after it
abbrev pub part_then : Option (List ℕ) → List ℕ → List ℕ → (List ℕ → Option (List Part)) → Option (List Part)
part_then None text rest next = None
part_then (Some name) [] rest next = None
part_then (Some name) (b ∷ text) rest next = if is_apart rest then with_part (name, b ∷ text) (next rest) else None

-- the same, if the text is at the beginning of these bytes
abbrev pub part_at : Option (List ℕ) → List ℕ → (List ℕ → Option (List Part)) → Option (List Part)
part_at name bytes next = part_then name (predicate_prefix bytes) (drop (length (predicate_prefix bytes)) bytes) next

-- the processes and predicates of these bytes, at most so many, or nothing if the bytes do not have this form
abbrev pub parts_within : ℕ → List ℕ → Option (List Part)
parts_within zero bytes = None
parts_within (suc n) bytes =
    if nat_le (length (next_word bytes)) 0 then Some []
    else part_at (name_word (next_word bytes)) (without_blanks (after_word bytes)) (parts_within n)

-- the same, for any number of parts: there are at most as many as bytes
abbrev pub parts_in : List ℕ → Option (List Part)
parts_in bytes = parts_within (suc (length bytes)) bytes

-- Batches: commands with the word `;` between neighbours.

-- where a byte of a command is: between words, within a word, or within so many open parentheses
pub data Spot : Type 0 where
  Between : Spot
  InWord : Spot
  InParentheses : (depth : ℕ) → Spot

-- the spot after a byte that begins a word; if parentheses group, `(` begins a group up to the one that closes it
abbrev pub begun_by : Bool → ℕ → Spot
begun_by grouped b = if grouped && (b == 40) then InParentheses 1 else InWord

-- the spot after a byte of a word
abbrev pub word_after : ℕ → Spot
word_after b = if is_blank b then Between else InWord

-- the spot after a byte within so many open parentheses
abbrev pub parentheses_after : ℕ → ℕ → Spot
parentheses_after depth b =
    if b == 40 then InParentheses (depth + 1)
    else (if b == 41 then (if nat_le depth 1 then InWord else InParentheses (depth - 1))
    else InParentheses depth)

abbrev pub spot_after : Bool → Spot → ℕ → Spot
spot_after grouped Between b = if is_blank b then Between else begun_by grouped b
spot_after grouped InWord b = word_after b
spot_after grouped (InParentheses depth) b = parentheses_after depth b

-- the byte is the word `;`, and these bytes follow it
abbrev pub is_separator : Spot → ℕ → List ℕ → Bool
is_separator Between b bytes = (b == 59) && is_apart bytes
is_separator spot b bytes = false

-- the command sets a breakpoint; in such a command parentheses group
abbrev pub sets_break : List ℕ → Bool
sets_break bytes = bytes_eq (next_word bytes) (codes "break")

-- the commands of these bytes, where the first has already begun
abbrev pub commands_from : Bool → Spot → List ℕ → List (List ℕ)
commands_from grouped spot [] = [] ∷ []
commands_from grouped spot (b ∷ bytes) =
    if is_separator spot b bytes then [] ∷ commands_from (sets_break bytes) Between bytes
    else before_first_word b (commands_from grouped (spot_after grouped spot b) bytes)

-- the commands of a batch
abbrev pub commands_of : List ℕ → List (List ℕ)
commands_of bytes = commands_from (sets_break bytes) Between bytes
