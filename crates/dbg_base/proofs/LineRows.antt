-- Worked rows of command lines, computed from the definitions.
use Rattle.std.proofs.Common.{◌≡◌, ℕ, List, [], ◌∷◌, Some, None, Ok, Err, refl}
use Rattle.std.specs.Prelude.{codes}
use Rattle.dbg_base.specs.declared.refusal.Refusal.{Refusal}
use Rattle.dbg_base.specs.declared.refusal.Refusal.TheVariants.{UnknownProcess, BadLine}
use Rattle.dbg_base.specs.Calls.{Call, Give, Batch, Step, Next, Undo, Rollback, Goto, Back, Ask, Vars, Chan, Clock, Why, Breaks}
use Rattle.dbg_base.specs.CommandLines.{give, next_word, after_word, predicate_prefix, parts_in, commands_of}
use Rattle.dbg_base.specs.Requests.{Asks}
use Rattle.dbg_base.proofs.Rows.{system}

-- the seat asks for this call
abbrev AsksFor : List ℕ → ℕ → Call → Type 0
AsksFor line seat call = Asks system line (Ok (Some (record { seat = seat; call = call })))

-- the line is refused
abbrev IsRefused : List ℕ → Refusal → Type 0
IsRefused line refusal = Asks system line (Err refusal)

reads_next : AsksFor (codes "1 next a") 1 (give (Next 0))
reads_next = (_, refl, refl)

reads_vars : AsksFor (codes "  16 vars b ") 16 (Ask (Vars 1))
reads_vars = (_, refl, refl)

unknown_process : IsRefused (codes "1 next d") UnknownProcess
unknown_process = (_, refl, refl)

no_seat : IsRefused (codes "01x next a") BadLine
no_seat = refl

seat_too_large : IsRefused (codes "17 next a") BadLine
seat_too_large = refl

-- the shape of the whole line is checked before the names in it
unknown_word : IsRefused (codes "1 jump d") BadLine
unknown_word = (_, refl, refl)

one_word_too_many : IsRefused (codes "1 next d a") BadLine
one_word_too_many = (_, refl, refl)

seat_alone : IsRefused (codes "1 ") BadLine
seat_alone = (_, refl, refl)

-- a bad seat makes the line a syntax error, whatever follows
no_seat_of_break : IsRefused (codes "0 break k d (x = 1)") BadLine
no_seat_of_break = refl

-- so does a part without its form, whichever processes come before it
break_without_form : IsRefused (codes "1 break k d (x = 1) b") BadLine
break_without_form = (_, refl, refl)

break_without_process : IsRefused (codes "1 break k d (x = 1)") UnknownProcess
break_without_process = (_, (_, refl, refl), refl)

reads_step : AsksFor (codes "2 step b 1") 2 (give (Step 1 1))
reads_step = (_, refl, refl)

reads_clock : AsksFor (codes "1 clock b") 1 (Ask (Clock 1))
reads_clock = (_, refl, refl)

reads_rollback : AsksFor (codes "2 rollback b 0") 2 (give (Rollback 1 0))
reads_rollback = (_, refl, refl)

reads_chan : AsksFor (codes "1 chan a b") 1 (Ask (Chan 0 1))
reads_chan = (_, refl, refl)

no_receiver : IsRefused (codes "1 chan a d") UnknownProcess
no_receiver = (_, refl, refl)

no_number : IsRefused (codes "1 step d x") BadLine
no_number = (_, refl, refl)

no_place : IsRefused (codes "1 rollback d x") BadLine
no_place = (_, refl, refl)

no_process_to_roll_back : IsRefused (codes "1 rollback d 0") UnknownProcess
no_process_to_roll_back = (_, refl, refl)

blank_line : Asks system (codes "   ") (Ok None)
blank_line = refl

-- about a breakpoint, of any name
reads_goto : AsksFor (codes "1 goto d") 1 (give (Goto (codes "d")))
reads_goto = (_, refl, refl)

reads_why : AsksFor (codes "3 why a") 3 (Ask (Why (codes "a")))
reads_why = (_, refl, refl)

reads_breaks : AsksFor (codes "1 breaks") 1 (Ask Breaks)
reads_breaks = (_, refl, refl)

breaks_has_no_argument : IsRefused (codes "1 breaks k") BadLine
breaks_has_no_argument = (_, refl, refl)

no_name : IsRefused (codes "1 pass K") BadLine
no_name = (_, refl, refl)

-- words one by one
first_of_words : next_word (codes "  break k ") ≡ codes "break"
first_of_words = refl

after_first : after_word (codes "  break k ") ≡ codes " k "
after_first = refl

-- a predicate ends at the parenthesis that closes its first one; its blanks count
prefix_in_parentheses : predicate_prefix (codes "((x) = 1) b") ≡ codes "((x) = 1)"
prefix_in_parentheses = refl

prefix_that_is_not_closed : predicate_prefix (codes "((x = 1) b") ≡ codes "((x = 1) b"
prefix_that_is_not_closed = refl

prefix_without_parentheses : predicate_prefix (codes "true) b (") ≡ codes "true)"
prefix_without_parentheses = refl

-- the parts of a line
two_parts : parts_in (codes " a (x) b y ") ≡ Some ((codes "a", codes "(x)") ∷ (codes "b", codes "y") ∷ [])
two_parts = refl

no_part : parts_in (codes "  ") ≡ Some []
no_part = refl

-- a process without a predicate, a predicate that no blank follows, and a process that is not a name
part_without_predicate : parts_in (codes "a (x) b ") ≡ None
part_without_predicate = refl

parts_not_apart : parts_in (codes "a (x)b y") ≡ None
parts_not_apart = refl

part_without_name : parts_in (codes "a x 2b y") ≡ None
part_without_name = refl

reads_back : AsksFor (codes "3 back") 3 Back
reads_back = (_, refl, refl)

back_has_no_argument : IsRefused (codes "1 back a") BadLine
back_has_no_argument = (_, refl, refl)

-- the commands of a batch
three_commands : commands_of (codes " next a ; next b;c ; ") ≡ codes " next a " ∷ codes " next b;c " ∷ codes " " ∷ []
three_commands = refl

-- if a breakpoint is set, what is in parentheses belongs to a predicate
separator_in_parentheses : commands_of (codes "break k a (x ; (y ; 1) ; z) ; undo b") ≡ codes "break k a (x ; (y ; 1) ; z) " ∷ codes " undo b" ∷ []
separator_in_parentheses = refl

separator_after_open_parenthesis : commands_of (codes "undo ( ; undo b") ≡ codes "undo ( " ∷ codes " undo b" ∷ []
separator_after_open_parenthesis = refl

no_blank_after_parenthesis : commands_of (codes "break k a (x); next a") ≡ codes "break k a (x); next a" ∷ []
no_blank_after_parenthesis = refl

reads_batch : AsksFor (codes "1 batch next a ; undo b") 1 (Give (Batch (Next 0 ∷ Undo 1 ∷ [])))
reads_batch = (_, (_, (_, _, refl, (_, _, refl, refl, refl), refl), refl), refl)

-- the shape of each command of a batch is checked before what the commands name
no_process_in_batch : IsRefused (codes "1 batch next d ; next a") UnknownProcess
no_process_in_batch = (_, (_, (_, _, refl, (_, _, refl, refl, refl), refl), refl), refl)

no_shape_in_batch : IsRefused (codes "1 batch next d ; jump a") BadLine
no_shape_in_batch = (_, (_, (_, _, refl, (_, _, refl, refl, refl), refl), refl), refl)

empty_batch : IsRefused (codes "1 batch") BadLine
empty_batch = (_, (_, (_, _, refl, refl, refl), refl), refl)

batch_ends_with_separator : IsRefused (codes "1 batch next a ;") BadLine
batch_ends_with_separator = (_, (_, (_, _, refl, (_, _, refl, refl, refl), refl), refl), refl)

no_back_in_batch : IsRefused (codes "1 batch back") BadLine
no_back_in_batch = (_, (_, (_, _, refl, refl, refl), refl), refl)
