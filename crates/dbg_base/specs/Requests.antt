-- What a command line asks for, or why the line is refused.
use Rattle.std.specs.Prelude.{◌≡◌, ◌⊎◌, ℕ, Bool, true, false, ◌==◌, ◌||◌, ◌≤◌, List, [], ◌∷◌, length, Option, Some, None, Result, Ok, Err}
use Rattle.std.specs.Prelude.{nat_le, nat_lt, codes, if◌then◌else◌}
use Rattle.std.specs.Bool.{MatchBool}
use Rattle.std.specs.List.{list_any}
use Rattle.std.specs.Str.{bytes_eq}
use Rattle.dbg_base.specs.declared.fault.ProgFault.{ProgFault}
use Rattle.dbg_base.specs.declared.refusal.Refusal.{Refusal}
use Rattle.dbg_base.specs.declared.refusal.Refusal.TheVariants.{BadLine, BadPredicate, Memory}
use Rattle.dbg_base.specs.declared.limits.TheConstants.{BATCH, LINE_BYTES}
use Rattle.dbg_base.specs.Trees.{Tree, Program}
use Rattle.dbg_base.specs.Predicates.{Conjunct}
use Rattle.dbg_base.specs.Checks.{ReadsPredicate, IsPredicateFault}
use Rattle.dbg_base.specs.Calls.{Plan, Break, One, Batch, Call, Give}
use Rattle.dbg_base.specs.CommandLines.{Request, Part, words_of, without_return, seat_word, name_word, named_process, map_ok}
use Rattle.dbg_base.specs.CommandLines.{give, call_of_words, next_word, after_word, parts_in, sets_break, commands_of}

-- a conjunct before others
abbrev pub with_conjunct : ℕ → Tree → Result (List Conjunct) Refusal → Result (List Conjunct) Refusal
with_conjunct p tree others = map_ok (λ conjuncts. record { process = p; expression = tree } ∷ conjuncts) others

-- The conjuncts of a part whose process and text are given, followed by the others; or why the part is refused. It is refused if there is
-- no such process, if its text is not a predicate of the process, or if the process has a part already.
abbrev pub ReadsPart : Program → List ℕ → Result ℕ Refusal → List ℕ → (ℕ → Result (List Conjunct) Refusal → Type 0)
    → Result (List Conjunct) Refusal → Type 0
ReadsPart P before (Err refusal) text Rest result = result ≡ Err refusal
ReadsPart P before (Ok p) text Rest result =
    ((tree : Tree) × ReadsPredicate P p text tree
    × MatchBool (list_any (λ q. q == p) before) (result ≡ Err BadPredicate)
    ((others : Result (List Conjunct) Refusal) × Rest p others × (result ≡ with_conjunct p tree others)))
    ⊎ ((fault : ProgFault) × IsPredicateFault P p text fault × (result ≡ Err BadPredicate))

-- the parts as conjuncts, or the refusal of the first part that is refused; the processes `before` have a part already
abbrev pub ReadsParts : Program → List ℕ → List Part → Result (List Conjunct) Refusal → Type 0
ReadsParts P before [] result = result ≡ Ok []
ReadsParts P before (part ∷ parts) result =
    ReadsPart P before (named_process P part.0) part.1 (λ p others. ReadsParts P (p ∷ before) parts others) result

-- the call that sets a breakpoint of this name, with at least one part
abbrev pub AsksBreak : Program → Option (List ℕ) → Option (List Part) → Result Call Refusal → Type 0
AsksBreak P (Some name) (Some (part ∷ parts)) result =
    (conjuncts : Result (List Conjunct) Refusal) × ReadsParts P [] (part ∷ parts) conjuncts
    × (result ≡ map_ok (λ made. give (Break name made)) conjuncts)
AsksBreak P name parts result = result ≡ Err BadLine

-- The call of a single command, or why it is refused. After the word `break` a name and parts follow, and after other words their
-- arguments.
abbrev pub AsksOne : Program → List ℕ → Result Call Refusal → Type 0
AsksOne P bytes result =
    MatchBool (sets_break bytes)
    (AsksBreak P (name_word (next_word (after_word bytes))) (parts_in (after_word (after_word bytes))) result)
    (result ≡ call_of_words P (next_word bytes) (words_of (after_word bytes)))

-- the command that a call gives; only a single command may be in a batch
abbrev pub command_in : Result Call Refusal → Result Plan Refusal
command_in (Ok (Give (One plan))) = Ok plan
command_in (Ok call) = Err BadLine
command_in (Err refusal) = Err refusal

-- each of these commands, or why it may not be in a batch
abbrev pub AsksEach : Program → List (List ℕ) → List (Result Plan Refusal) → Type 0
AsksEach P [] results = results ≡ []
AsksEach P (command ∷ commands) results =
    (call : Result Call Refusal) × (others : List (Result Plan Refusal)) × AsksOne P command call × AsksEach P commands others
    × (results ≡ command_in call ∷ others)

-- whether it has not the shape of a command
abbrev pub is_shapeless : Result Plan Refusal → Bool
is_shapeless (Err BadLine) = true
is_shapeless result = false

-- a command before others
abbrev pub with_command : Result Plan Refusal → Result (List Plan) Refusal → Result (List Plan) Refusal
with_command (Err refusal) others = Err refusal
with_command (Ok plan) others = map_ok (λ plans. plan ∷ plans) others

-- the commands, or the first refusal
abbrev pub all_commands : List (Result Plan Refusal) → Result (List Plan) Refusal
all_commands [] = Ok []
all_commands (first ∷ others) = with_command first (all_commands others)

-- The call of a batch of these commands, at most 32. The shape of the whole line is checked first, and then what its commands name.
abbrev pub batch_of : List (Result Plan Refusal) → Result Call Refusal
batch_of results =
    if list_any is_shapeless results || nat_lt BATCH (length results) then Err BadLine
    else map_ok (λ plans. Give (Batch plans)) (all_commands results)

abbrev pub AsksBatch : Program → List ℕ → Result Call Refusal → Type 0
AsksBatch P bytes result =
    (results : List (Result Plan Refusal)) × AsksEach P (commands_of bytes) results × (result ≡ batch_of results)

-- The call of a command; after the word `batch` commands follow.
abbrev pub AsksCall : Program → List ℕ → Result Call Refusal → Type 0
AsksCall P bytes result =
    MatchBool (bytes_eq (next_word bytes) (codes "batch")) (AsksBatch P (after_word bytes) result) (AsksOne P bytes result)

-- a seat's call; if there is no such seat, the line is a syntax error, whatever follows
abbrev pub AsksBy : Program → Option ℕ → List ℕ → Result (Option Request) Refusal → Type 0
AsksBy P None bytes result = result ≡ Err BadLine
AsksBy P (Some seat) bytes result =
    (call : Result Call Refusal) × AsksCall P bytes call × (result ≡ map_ok (λ made. Some (record { seat = seat; call = made })) call)

-- a blank line asks for nothing; otherwise the first word is the seat, and a command follows it
abbrev pub AsksWithin : Program → List ℕ → Result (Option Request) Refusal → Type 0
AsksWithin P bytes result =
    MatchBool (nat_le (length (next_word bytes)) 0) (result ≡ Ok None) (AsksBy P (seat_word (next_word bytes)) (after_word bytes) result)

-- What a line asks for, or why it is refused; a blank line asks for nothing. The line is without its line end. It may have a carriage
-- return at its end, which its length counts.
abbrev pub Asks : Program → List ℕ → Result (Option Request) Refusal → Type 0
Asks P line result =
    MatchBool (nat_lt LINE_BYTES (length line)) (result ≡ Err BadLine) (AsksWithin P (without_return line) result)

-- the command sets a breakpoint or gives a batch; only such commands allocate
abbrev pub MayTakeMemory : List ℕ → Type 0
MayTakeMemory bytes = (next_word bytes ≡ codes "break") ⊎ (next_word bytes ≡ codes "batch")

-- The line is within its limit, and its command is one that allocates.
pub record TakesMemory (line : List ℕ) : Type 0 where
  pub short : length line ≤ LINE_BYTES
  pub command : MayTakeMemory (after_word (without_return line))

-- what a line asks for, or a line that allocates is refused as out of memory
abbrev pub AsksOrRefuses : Program → List ℕ → Result (Option Request) Refusal → Type 0
AsksOrRefuses P line asked = Asks P line asked ⊎ (TakesMemory line × (asked ≡ Err Memory))
