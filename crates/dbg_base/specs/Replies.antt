-- The words of a reply, and its text, without a line end.
use Rattle.std.specs.Prelude.{ℕ, ℤ, Bool, true, false, List, [], ◌∷◌, ◌++◌, map, Option, Some, None, Result, Ok, Err, codes}
use Rattle.std.specs.List.{flat_map, zip}
use Rattle.std.specs.Fmt.{decimal, signed_decimal}
use Rattle.dbg_base.specs.declared.said.Said.{Said}
use Rattle.dbg_base.specs.declared.said.Said.TheVariants.{Accepted, Answered, Refused}
use Rattle.dbg_base.specs.declared.said.Done.{Done}
use Rattle.dbg_base.specs.declared.said.Done.TheVariants.{Played, Undone, Places, Plain}
use Rattle.dbg_base.specs.declared.said.Head.{Head}
use Rattle.dbg_base.specs.declared.said.Head.TheVariants.{At, Past}
use Rattle.dbg_base.specs.declared.said.Answer.{Answer}
use Rattle.dbg_base.specs.declared.said.Answer.TheVariants.{Values, Messages, Counts, PlaceOf, CanUndo, CutIs, Frontier, Marks}
use Rattle.dbg_base.specs.declared.refusal.Refusal.{Refusal}
use Rattle.dbg_base.specs.declared.refusal.Refusal.TheVariants.{Consequence, Halted, OtherSeat, InBatch}
use Rattle.dbg_base.specs.Calls.{Query, Vars, Chan, Clock, Place, Can, CutOf, Why, Breaks, Call, Ask}
use Rattle.dbg_base.specs.Refusals.{refusal_number}
use Rattle.dbg_base.specs.Trees.{Program, process_of, names_of}

-- words, each with a space before it
abbrev pub spaced : List (List ℕ) → List ℕ
spaced words = flat_map (λ word. codes " " ++ word) words

-- words, with a space between neighbours
abbrev pub joined : List (List ℕ) → List ℕ
joined [] = []
joined (word ∷ words) = word ++ spaced words

-- the name of a process
abbrev pub name_of : Program → ℕ → List ℕ
name_of P p = (process_of P p).name

-- a name, `=`, and a text
abbrev pub pair_word : List ℕ × List ℕ → List ℕ
pair_word pair = pair.0 ++ codes "=" ++ pair.1

-- a pair word for each name and its text
abbrev pub pair_words : List (List ℕ) → List (List ℕ) → List (List ℕ)
pair_words names texts = map pair_word (zip names texts)

-- a count for each process
abbrev pub count_words : Program → List ℕ → List (List ℕ)
count_words P counts = pair_words (names_of P) (map decimal counts)

-- a value for each variable of the process
abbrev pub value_words : Program → ℕ → List ℤ → List (List ℕ)
value_words P p values = pair_words (map (λ variable. variable.0) (process_of P p).variables) (map signed_decimal values)

-- a count, or `past`
abbrev pub head_text : Head → List ℕ
head_text (At count) = decimal count
head_text Past = codes "past"

-- a component of a frontier for each process
abbrev pub head_words : Program → List Head → List (List ℕ)
head_words P heads = pair_words (names_of P) (map head_text heads)

-- the mark of a breakpoint: whether it is armed
abbrev pub mark_text : Bool → List ℕ
mark_text true = codes "on"
mark_text false = codes "off"

-- a breakpoint, a space, and its mark
abbrev pub mark_word : List ℕ × Bool → List ℕ
mark_word m = m.0 ++ codes " " ++ mark_text m.1

-- the name or the seat in a refusal, or the position in a batch with the number of the refusal there
abbrev pub carried_words : Program → Refusal → List (List ℕ)
carried_words P (Consequence pid) = name_of P pid.0 ∷ []
carried_words P (Halted name) = name ∷ []
carried_words P (OtherSeat seat) = decimal seat ∷ []
carried_words P (InBatch at number) = decimal at ∷ decimal number ∷ []
carried_words P refusal = []

-- the number of a refusal, and what it contains
abbrev pub refusal_words : Program → Refusal → List (List ℕ)
refusal_words P refusal = decimal (refusal_number refusal) ∷ carried_words P refusal

-- the line that refuses a call
abbrev pub refusal_text : Program → Refusal → List ℕ
refusal_text P refusal = joined (codes "no" ∷ refusal_words P refusal)

-- the result of a command
abbrev pub done_words : Program → Done → List (List ℕ)
done_words P (Played pid choice) = name_of P pid.0 ∷ decimal choice.0 ∷ []
done_words P (Undone pid choice) = name_of P pid.0 ∷ decimal choice.0 ∷ []
done_words P (Places cut) = count_words P cut
done_words P Plain = []

-- the breakpoint that halts the session, if any
abbrev pub halted_words : Option (List ℕ) → List (List ℕ)
halted_words None = []
halted_words (Some name) = codes "halted" ∷ name ∷ []

-- a breakpoint's cut, if it has one
abbrev pub cut_words : Program → Option (List ℕ) → List (List ℕ)
cut_words P None = codes "none" ∷ []
cut_words P (Some cut) = count_words P cut

-- whether an event may be undone, or why not
abbrev pub can_words : Program → Result (Unit {0}) Refusal → List (List ℕ)
can_words P (Ok done) = codes "yes" ∷ []
can_words P (Err refusal) = codes "no" ∷ refusal_words P refusal

-- The words of the answer to a query: those of the query, and then the answer. No other answer fits the query.
abbrev pub answer_words : Program → Query → Answer → List (List ℕ)
answer_words P (Vars p) (Values values) = codes "vars" ∷ name_of P p ∷ value_words P p values
answer_words P (Chan i j) (Messages messages) = codes "chan" ∷ name_of P i ∷ name_of P j ∷ map signed_decimal messages
answer_words P (Clock p) (Counts cut) = codes "clock" ∷ name_of P p ∷ count_words P cut
answer_words P (Place p) (PlaceOf at line) = codes "place" ∷ name_of P p ∷ decimal at ∷ codes "of" ∷ decimal line ∷ []
answer_words P (Can p) (CanUndo outcome) = codes "can" ∷ name_of P p ∷ can_words P outcome
answer_words P (CutOf name) (CutIs cut) = codes "cut" ∷ name ∷ cut_words P cut
answer_words P (Why name) (Frontier heads) = codes "why" ∷ name ∷ head_words P heads
answer_words P Breaks (Marks marks) = codes "breaks" ∷ map mark_word marks
answer_words P query answer = []

-- the words of the line that answers a call
abbrev pub reply_words : Program → Call → Said → List (List ℕ)
reply_words P call (Accepted reply) = codes "ok" ∷ (done_words P reply.done ++ halted_words reply.halted)
reply_words P (Ask query) (Answered given) = answer_words P query given
reply_words P call (Answered given) = []
reply_words P call (Refused refusal) = codes "no" ∷ refusal_words P refusal

-- the text of that line
abbrev pub reply_text : Program → Call → Said → List ℕ
reply_text P call said = joined (reply_words P call said)
