-- Why a line may be refused.
use Rattle.std.proofs.Common.{◌≡◌, ℕ, Bool, true, false, cond, List, ◌∷◌, [], Option, Some, None, Result, Ok, Err, length, ◌||◌}
use Rattle.std.proofs.Common.{sym, subst, inl, inr}
use Rattle.std.specs.Prelude.{codes, ok_or, nat_le, nat_lt, IfErr}
use Rattle.std.specs.List.{list_any}
use Rattle.std.specs.Str.{bytes_eq}
use Rattle.dbg_base.specs.declared.limits.TheConstants.{BATCH, LINE_BYTES}
use Rattle.dbg_base.specs.declared.refusal.Refusal.{Refusal}
use Rattle.dbg_base.specs.declared.refusal.Refusal.TheVariants.{BadLine, BadPredicate, UnknownProcess, Memory}
use Rattle.dbg_base.specs.Names.{place_of}
use Rattle.dbg_base.specs.Calls.{Plan, One, Batch, Call, Give, Back, Ask}
use Rattle.dbg_base.specs.Trees.{Program, names_of}
use Rattle.dbg_base.specs.CommandLines.{Request, Part, map_ok, with_word, with_both, named_process, process_call, break_call, named_call}
use Rattle.dbg_base.specs.CommandLines.{name_word, number_word, pair_call, call_of_words, words_of, next_word, after_word}
use Rattle.dbg_base.specs.CommandLines.{without_return, parts_in, seat_word, sets_break, commands_of}
use Rattle.dbg_base.specs.Requests.{AsksBreak, AsksOne, command_in, AsksEach, is_shapeless, with_command, all_commands, AsksBatch, AsksCall}
use Rattle.dbg_base.specs.Requests.{AsksBy, Asks}
use Rattle.shell_parse.specs.declared.line.Line.{Line}
use Rattle.shell_parse.specs.Lines.{IsParsed, IsLineRefusal}
use Rattle.shell_parse.proofs.Shapes.{IsFormed, either, of_parts}

-- it is refused for its shape, a process, or a predicate
abbrev IsEarned : Refusal → Type 0
IsEarned BadLine = Unit {0}
IsEarned UnknownProcess = Unit {0}
IsEarned BadPredicate = Unit {0}
IsEarned refusal = ⊥

-- a call that does not give a batch
abbrev pub IsAlone : Call → Type 0
IsAlone (Give (Batch plans)) = ⊥
IsAlone call = Unit {0}

abbrev Any : {X : Type 0} → X → Type 0
Any x = Unit {0}

-- an accepted value has the property, or the refusal is one of these
abbrev Earns : {X : Type 0} (Good : X → Type 0) → Result X Refusal → Type 0
Earns Good (Ok x) = Good x
Earns Good (Err refusal) = IsEarned refusal

earned_by_names : {X : Type 0} (result : Result X Refusal) → IsFormed result → Earns Any result
earned_by_names (Ok x) formed = tt
earned_by_names (Err UnknownProcess) formed = tt
earned_by_names (Err BadPredicate) formed = tt
earned_by_names (Err refusal) formed = absurd formed

weaker : {X : Type 0} (Good : X → Type 0) (result : Result X Refusal) → Earns Good result → Earns Any result
weaker Good (Ok x) earns = tt
weaker Good (Err refusal) earns = earns

mapped : {X Y : Type 0} (Good : Y → Type 0) (f : X → Y) (result : Result X Refusal) → ((x : X) → Good (f x)) → Earns Any result
    → Earns Good (map_ok f result)
mapped Good f (Ok x) good earns = good x
mapped Good f (Err refusal) good earns = earns

one_of : {X : Type 0} (Good : X → Type 0) (t : Bool) (x y : Result X Refusal) → Earns Good x → Earns Good y → Earns Good (cond t x y)
one_of Good true x y a b = a
one_of Good false x y a b = b

-- the same call of one process, or of several
called : {X : Type 0} (call : X → Call) (result : Result X Refusal) → ((x : X) → IsAlone (call x)) → Earns Any result
    → Earns IsAlone (map_ok call result)
called = mapped IsAlone

found : (place : Option ℕ) → Earns Any (ok_or place UnknownProcess)
found None = tt
found (Some place) = tt

named : (P : Program) (name : List ℕ) → Earns Any (named_process P name)
named P name = found (place_of name (names_of P))

of_word : {X : Type 0} (word : Option X) (go : X → Result Call Refusal) → ((x : X) → Earns IsAlone (go x)) → Earns IsAlone (with_word word go)
of_word None go earns = tt
of_word (Some x) go earns = earns x

both : (call : ℕ → ℕ → Call) (first second : Result ℕ Refusal) → ((i j : ℕ) → IsAlone (call i j)) → Earns Any first → Earns Any second
    → Earns IsAlone (with_both call first second)
both call (Ok i) second alone a b = called (call i) second (alone i) b
both call (Err refusal) second alone a b = a

of_process : (word : List ℕ) (process : Result ℕ Refusal) → Earns Any process → Earns IsAlone (process_call word process)
of_process word process earns =
    one_of IsAlone (bytes_eq word (codes "next")) _ _ (called _ process (λ p. tt) earns)
    (one_of IsAlone (bytes_eq word (codes "undo")) _ _ (called _ process (λ p. tt) earns)
    (one_of IsAlone (bytes_eq word (codes "redo")) _ _ (called _ process (λ p. tt) earns)
    (one_of IsAlone (bytes_eq word (codes "vars")) _ _ (called _ process (λ p. tt) earns)
    (one_of IsAlone (bytes_eq word (codes "clock")) _ _ (called _ process (λ p. tt) earns)
    (one_of IsAlone (bytes_eq word (codes "place")) _ _ (called _ process (λ p. tt) earns)
    (one_of IsAlone (bytes_eq word (codes "can")) _ _ (called _ process (λ p. tt) earns) tt))))))

abbrev AreAlone : Option Call → Type 0
AreAlone None = Unit {0}
AreAlone (Some call) = IsAlone call

call_of_two : (t : Bool) (x y : Option Call) → AreAlone x → AreAlone y → AreAlone (cond t x y)
call_of_two true x y a b = a
call_of_two false x y a b = b

of_breakpoint : (word name : List ℕ) → AreAlone (break_call word name)
of_breakpoint word name =
    call_of_two (bytes_eq word (codes "goto")) _ _ tt
    (call_of_two (bytes_eq word (codes "clear")) _ _ tt
    (call_of_two (bytes_eq word (codes "arm")) _ _ tt
    (call_of_two (bytes_eq word (codes "pass")) _ _ tt
    (call_of_two (bytes_eq word (codes "cut")) _ _ tt (call_of_two (bytes_eq word (codes "why")) _ _ tt tt)))))

of_name : (P : Program) (word name : List ℕ) (call : Option Call) → AreAlone call → Earns IsAlone (named_call P word name call)
of_name P word name (Some call) alone = alone
of_name P word name None alone = of_process word (named_process P name) (named P name)

of_pair : (P : Program) (word first second : List ℕ) → Earns IsAlone (pair_call P word first second)
of_pair P word first second =
    let process = named_process P first in
    one_of IsAlone (bytes_eq word (codes "step")) _ _
    (of_word (number_word second) _ (λ k. called _ process (λ p. tt) (named P first)))
    (one_of IsAlone (bytes_eq word (codes "rollback")) _ _
    (of_word (number_word second) _ (λ n. called _ process (λ p. tt) (named P first)))
    (one_of IsAlone (bytes_eq word (codes "chan")) _ _
    (of_word (name_word second) _ (λ name. both _ process (named_process P name) (λ i j. tt) (named P first) (named P name))) tt))

of_words : (P : Program) (word : List ℕ) (arguments : List (List ℕ)) → Earns IsAlone (call_of_words P word arguments)
of_words P word [] =
    one_of IsAlone (bytes_eq word (codes "back")) _ _ tt (one_of IsAlone (bytes_eq word (codes "breaks")) _ _ tt tt)
of_words P word (argument ∷ []) =
    of_word (name_word argument) _ (λ name. of_name P word name (break_call word name) (of_breakpoint word name))
of_words P word (first ∷ second ∷ []) = of_word (name_word first) _ (λ name. of_pair P word name second)
of_words P word (first ∷ second ∷ third ∷ arguments) = tt

-- a result that is one of these
is_earned : {X : Type 0} (Good : X → Type 0) (result known : Result X Refusal) → result ≡ known → Earns Good known → Earns Good result
is_earned Good result known e earns = subst (Earns Good) (sym e) earns

of_break : (P : Program) (name : Option (List ℕ)) (parts : Option (List Part)) (result : Result Call Refusal)
    → AsksBreak P name parts result → Earns IsAlone result
of_break P None parts result e = is_earned IsAlone result _ e tt
of_break P (Some name) None result e = is_earned IsAlone result _ e tt
of_break P (Some name) (Some []) result e = is_earned IsAlone result _ e tt
of_break P (Some name) (Some (part ∷ parts)) result (conjuncts, reads, e) =
    is_earned IsAlone result _ e
    (called _ conjuncts (λ made. tt) (earned_by_names conjuncts (of_parts P [] (part ∷ parts) conjuncts reads)))

-- a single command
pub of_one : (P : Program) (bytes : List ℕ) (result : Result Call Refusal) → AsksOne P bytes result → Earns IsAlone result
of_one P bytes result =
    either (sets_break bytes)
    (of_break P (name_word (next_word (after_word bytes))) (parts_in (after_word (after_word bytes))) result)
    (λ e. is_earned IsAlone result _ e (of_words P (next_word bytes) (words_of (after_word bytes))))

of_member : (result : Result Call Refusal) → Earns Any result → Earns Any (command_in result)
of_member (Ok (Give (One plan))) earns = tt
of_member (Ok (Give (Batch plans))) earns = tt
of_member (Ok Back) earns = tt
of_member (Ok (Ask query)) earns = tt
of_member (Err refusal) earns = earns

with_member : (first : Result Plan Refusal) (others : Result (List Plan) Refusal) → Earns Any first → Earns Any others
    → Earns Any (with_command first others)
with_member (Ok plan) others a b = mapped Any _ others (λ plans. tt) b
with_member (Err refusal) others a b = a

of_each : (P : Program) (commands : List (List ℕ)) (results : List (Result Plan Refusal)) → AsksEach P commands results
    → Earns Any (all_commands results)
of_each P [] results e = subst (λ (r : List (Result Plan Refusal)). Earns Any (all_commands r)) (sym e) tt
of_each P (command ∷ commands) results (asked, others, one, each, e) =
    subst (λ (r : List (Result Plan Refusal)). Earns Any (all_commands r)) (sym e)
    (with_member (command_in asked) (all_commands others) (of_member asked (weaker IsAlone asked (of_one P command asked one)))
    (of_each P commands others each))

of_batch : (P : Program) (bytes : List ℕ) (result : Result Call Refusal) → AsksBatch P bytes result → Earns Any result
of_batch P bytes result (results, each, e) =
    is_earned Any result _ e
    (one_of Any (list_any is_shapeless results || nat_lt BATCH (length results)) _ _ tt
    (mapped Any _ (all_commands results) (λ plans. tt) (of_each P (commands_of bytes) results each)))

of_command : (P : Program) (bytes : List ℕ) (result : Result Call Refusal) → AsksCall P bytes result → Earns Any result
of_command P bytes result =
    either (bytes_eq (next_word bytes) (codes "batch")) (of_batch P (after_word bytes) result)
    (λ one. weaker IsAlone result (of_one P bytes result one))

of_seat : (P : Program) (seat : Option ℕ) (bytes : List ℕ) (result : Result (Option Request) Refusal) → AsksBy P seat bytes result
    → Earns Any result
of_seat P None bytes result e = is_earned Any result _ e tt
of_seat P (Some seat) bytes result (call, asks, e) = is_earned Any result _ e (mapped Any _ call (λ made. tt) (of_command P bytes call asks))

of_line : (P : Program) (line : List ℕ) (result : Result (Option Request) Refusal) → Asks P line result → Earns Any result
of_line P line result =
    either (nat_lt LINE_BYTES (length line)) (λ e. is_earned Any result _ e tt)
    (either (nat_le (length (next_word (without_return line))) 0) (λ e. is_earned Any result _ e tt)
    (of_seat P (seat_word (next_word (without_return line))) (after_word (without_return line)) result))

earned : (line : List ℕ) (refusal : Refusal) → IsEarned refusal → IsLineRefusal line refusal
earned line BadLine is = tt
earned line UnknownProcess is = tt
earned line BadPredicate is = tt
earned line refusal is = absurd is

-- so a line is refused for one of these reasons, or it allocates
pub line_refused : (P : Program) (line : List ℕ) (result : Result (Option Line) Refusal) → IsParsed P line result
    → IfErr result (IsLineRefusal line)
line_refused P line (Ok made) parsed = tt
line_refused P line (Err refusal) (inl asks) = earned line refusal (of_line P line (Err refusal) asks)
line_refused P line (Err refusal) (inr (takes, e)) =
    let same : refusal ≡ Memory = cc in subst (IsLineRefusal line) (sym same) takes
