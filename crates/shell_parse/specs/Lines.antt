-- Parsed command lines of the code, in terms of the model.
use Rattle.std.specs.Prelude.{◌≡◌, ◌⊎◌, ℕ, ◌≤◌, Bool, true, false, ◌==◌, ◌&&◌, not, nat_le, if◌then◌else◌, List, ◌∷◌, length, map}
use Rattle.std.specs.Prelude.{Option, Some, None, is_some, Result, Ok, Err, codes, Vec}
use Rattle.std.specs.declared.alloc.Global.{Global}
use Rattle.std.specs.Bool.{MatchBool}
use Rattle.std.specs.List.{list_any, list_all, AllByRecursion}
use Rattle.std.specs.Option.{option_map}
use Rattle.dbg_base.specs.declared.call.Call as call
use Rattle.dbg_base.specs.declared.call.Conjunct as conjunct
use Rattle.dbg_base.specs.declared.fault.ProgFault.{ProgFault}
use Rattle.dbg_base.specs.declared.refusal.Refusal.{Refusal}
use Rattle.dbg_base.specs.declared.refusal.Refusal.TheVariants.{BadLine, UnknownProcess, BadPredicate, Memory}
use Rattle.dbg_base.specs.declared.call.Call.TheVariants as calls
use Rattle.dbg_base.specs.declared.call.Plan as plan
use Rattle.dbg_base.specs.declared.call.Plan.TheVariants as plans
use Rattle.dbg_base.specs.declared.limits.TheConstants.{BATCH}
use Rattle.dbg_base.specs.Calls.{Plan, One, IsBatch, order_of, Call, call_of}
use Rattle.dbg_base.specs.Checks.{ReadsPredicate, IsPredicateFault}
use Rattle.dbg_base.specs.Predicates.{Conjunct}
use Rattle.dbg_base.specs.Trees.{Tree, Program}
use Rattle.dbg_base.specs.CommandLines.{Request, Part, map_ok, name_word, next_word, after_word, parts_in}
use Rattle.dbg_base.specs.CommandLines.{words_of, call_of_words, sets_break, commands_of, Spot, Between, InWord, InParentheses}
use Rattle.dbg_base.specs.Requests.{AsksBreak, AsksOne, command_in, AsksEach, is_shapeless, all_commands, AsksBatch, AsksCall, MayTakeMemory}
use Rattle.dbg_base.specs.Requests.{TakesMemory, AsksOrRefuses}
use Rattle.shell_parse.specs.declared.batch_line.Spot as spot
use Rattle.shell_parse.specs.declared.batch_line.Spot.TheVariants as spots
use Rattle.shell_parse.specs.declared.line.Line.{Line}
use Rattle.shell_parse.specs.declared.line.ProcessLine.{ProcessLine}
use Rattle.shell_parse.specs.Words.{process_word_call}

-- the model's request for a line of the code
abbrev pub requested : Line → Request
requested line = record { seat = line.seat; call = call_of line.call }

-- the request of a command line about a process
abbrev pub process_request : ProcessLine → Request
process_request line = record { seat = line.seat; call = process_word_call line.word line.process.0 }

-- the line asks for this
abbrev pub IsParsed : Program → List ℕ → Result (Option Line) Refusal → Type 0
IsParsed P line result = AsksOrRefuses P line (map_ok (option_map requested) result)

-- Why the line may be refused: its shape, a process, a predicate, or out of memory if it allocates.
abbrev pub IsLineRefusal : List ℕ → Refusal → Type 0
IsLineRefusal line BadLine = Unit {0}
IsLineRefusal line UnknownProcess = Unit {0}
IsLineRefusal line BadPredicate = Unit {0}
IsLineRefusal line Memory = TakesMemory line
IsLineRefusal line refusal = ⊥

-- the command asks for this, or it allocates and memory ran out
abbrev pub IsCommandParsed : Program → List ℕ → Result call.Call Refusal → Type 0
IsCommandParsed P bytes result = AsksCall P bytes (map_ok call_of result) ⊎ (MayTakeMemory bytes × (result ≡ Err Memory))

-- A batch that may be given: it has 1 to 32 commands, and each is a single command.
abbrev pub MayBeBatch : List plan.Plan → Type 0
MayBeBatch made = (1 ≤ length made) × (length made ≤ BATCH) × AllByRecursion (λ p. ¬ IsBatch (order_of p)) made

-- a call that may be given: if it gives a batch, that is such a batch
abbrev pub IsGivable : call.Call → Type 0
IsGivable given = (batch : Vec plan.Plan Global) → given ≡ calls.Give (plans.Batch batch) → MayBeBatch batch.items

-- the line of a seat with this call, or why the call is refused
abbrev pub seat_line : ℕ → Result call.Call Refusal → Result (Option Line) Refusal
seat_line seat call = map_ok (λ made. Some (record { seat = seat; call = made })) call

-- the same for a single command
abbrev pub IsOneParsed : Program → List ℕ → Result call.Call Refusal → Type 0
IsOneParsed P bytes result = AsksOne P bytes (map_ok call_of result) ⊎ ((next_word bytes ≡ codes "break") × (result ≡ Err Memory))

-- the same for a batch, from the bytes after its word
abbrev pub IsBatchParsed : Program → List ℕ → Result call.Call Refusal → Type 0
IsBatchParsed P bytes result = AsksBatch P bytes (map_ok call_of result) ⊎ (result ≡ Err Memory)

abbrev pub IsLineGivable : Option Line → Type 0
IsLineGivable None = Unit {0}
IsLineGivable (Some line) = IsGivable line.call

-- the same for a command that sets a breakpoint, from the bytes after its word
abbrev pub IsBreakParsed : Program → List ℕ → Result call.Call Refusal → Type 0
IsBreakParsed P bytes result =
    AsksBreak P (name_word (next_word bytes)) (parts_in (after_word bytes)) (map_ok call_of result) ⊎ (result ≡ Err Memory)

-- there is at least one part, and all are well formed
abbrev pub has_parts : Option (List Part) → Bool
has_parts (Some (part ∷ parts)) = true
has_parts found = false

-- one of these conjuncts is of the process
abbrev pub has_part : List conjunct.Conjunct → ℕ → Bool
has_part made p = list_any (λ c. c.pid.0 == p) made

-- a text as a conjunct of this process, or why it is refused; `has_part` tests whether a process has a part already
abbrev pub ReadsNamed : Program → (ℕ → Bool) → Result ℕ Refusal → List ℕ → Result Conjunct Refusal → Type 0
ReadsNamed P has (Err refusal) text result = result ≡ Err refusal
ReadsNamed P has (Ok p) text result =
    ((tree : Tree) × ReadsPredicate P p text tree
    × MatchBool (has p) (result ≡ Err BadPredicate) (result ≡ Ok (record { process = p; expression = tree })))
    ⊎ ((fault : ProgFault) × IsPredicateFault P p text fault × (result ≡ Err BadPredicate))

-- The shape of a command that may be in a batch: a name and parts, or words that are a command, whatever they name.
abbrev pub has_shape : Program → List ℕ → Bool
has_shape P bytes =
    if sets_break bytes
    then is_some (name_word (next_word (after_word bytes))) && has_parts (parts_in (after_word (after_word bytes)))
    else not (is_shapeless (command_in (call_of_words P (next_word bytes) (words_of (after_word bytes)))))

-- at most 32 commands, each with the shape of a command
abbrev pub are_commands : Program → List ℕ → Bool
are_commands P bytes = list_all (has_shape P) (commands_of bytes) && nat_le (length (commands_of bytes)) BATCH

-- the command of a batch is this plan, or is refused like this
abbrev pub IsMember : Program → List ℕ → Result plan.Plan Refusal → Type 0
IsMember P bytes result = (asked : Result Call Refusal) × AsksOne P bytes asked × (map_ok order_of result ≡ map_ok One (command_in asked))

-- the commands of a batch are these plans, or are refused like this
abbrev pub AreRead : Program → List (List ℕ) → Result (List plan.Plan) Refusal → Type 0
AreRead P commands result =
    (results : List (Result Plan Refusal)) × AsksEach P commands results
    × (map_ok (map order_of) result ≡ map_ok (map One) (all_commands results))

-- the model's spot of a spot of the code
abbrev pub spot_of : spot.Spot → Spot
spot_of spots.Between = Between
spot_of spots.InWord = InWord
spot_of (spots.InParentheses depth) = InParentheses depth

-- the number of open parentheses
abbrev pub depth_of : Spot → ℕ
depth_of (InParentheses depth) = depth
depth_of spot = 0
