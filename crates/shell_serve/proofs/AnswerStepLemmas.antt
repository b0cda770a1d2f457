-- Every line has an answer. Whatever the answers are, the calls that the lines make are a legal journal.
use Rattle.std.proofs.Common.{◌≡◌, ℕ, ◌<◌, ◌≤◌, Bool, true, false, List, [], length, Option, Some, None, Result, Ok, Err}
use Rattle.std.proofs.Common.{refl, sym, subst, inl, inr, arith}
use Rattle.std.specs.Prelude.{nat_le, nat_lt, codes}
use Rattle.std.specs.Bool.{MatchBool}
use Rattle.std.specs.Str.{bytes_eq}
use Rattle.std.proofs.lemmas.Bool.Decides.{nat_tests}
use Rattle.std.proofs.lemmas.Slice.Eq.{bytes_eq-Decides}
use Rattle.dbg_base.specs.declared.limits.TheConstants.{CALLS, LINE_BYTES}
use Rattle.dbg_base.specs.declared.refusal.Refusal.{Refusal}
use Rattle.dbg_base.specs.declared.refusal.Refusal.TheVariants.{BadLine, JournalFull, Memory}
use Rattle.dbg_base.specs.declared.said.Said.TheVariants.{Refused}
use Rattle.dbg_base.specs.Trees.{Program}
use Rattle.dbg_base.specs.Calls.{Call}
use Rattle.dbg_base.specs.CommandLines.{Request, map_ok, without_return, next_word, after_word, seat_word, name_word, parts_in}
use Rattle.dbg_base.specs.CommandLines.{call_of_words, words_of, sets_break}
use Rattle.dbg_base.specs.Requests.{AsksBreak, AsksOne, AsksBatch, AsksBy, AsksWithin, MayTakeMemory, AsksOrRefuses}
use Rattle.dbg_base.specs.Journals.{Journal, IsLegal}
use Rattle.dbg_base.specs.Replies.{reply_text, refusal_text}
use Rattle.dbg_base.specs.Shell.{as_line, AnswersParsed, AnswersLine}
use Rattle.dbg_laws.proofs.LegalJournalLemmas.{makes_legal}

abbrev IsKnown : Result (Option Request) Refusal → Result (Option Request) Refusal → Type 0
IsKnown asked known = asked ≡ known

module _ (P : Program) (line : List ℕ) where
  abbrev within : List ℕ
  within = without_return line

  abbrev rest : List ℕ
  rest = after_word within

  -- the call of the line
  abbrev Known : Type 0
  Known = (asked : Result (Option Request) Refusal) × AsksOrRefuses P line asked

  module _ (short : nat_lt LINE_BYTES (length line) ≡ false) where
    short_asks : (asked : Result (Option Request) Refusal) → AsksWithin P within asked → Known
    short_asks asked asks =
        (asked, inl (subst (λ (t : Bool). MatchBool t (asked ≡ Err BadLine) (AsksWithin P within asked)) (sym short) asks))

    module _ (some : nat_le (length (next_word within)) 0 ≡ false) where
      seat_asks : (seat : Option ℕ) → seat_word (next_word within) ≡ seat → (asked : Result (Option Request) Refusal)
          → AsksBy P seat rest asked → Known
      seat_asks seat is asked asks =
          short_asks asked (subst (λ (t : Bool). MatchBool t (asked ≡ Ok None) (AsksBy P (seat_word (next_word within)) rest asked))
          (sym some) (subst (λ (s : Option ℕ). AsksBy P s rest asked) (sym is) asks))

      -- a command that allocates may be refused because memory ran out
      for_memory : MayTakeMemory rest → Known
      for_memory command = (Err Memory, inr (record { short = grind (arith, nat_tests); command = command }, refl))

      by_break : (seat : ℕ) → seat_word (next_word within) ≡ Some seat → bytes_eq (next_word rest) (codes "batch") ≡ false
          → (t : Bool) → sets_break rest ≡ t → Known
      by_break seat is one true word = for_memory (inl ((bytes_eq-Decides (next_word rest) (codes "break")).0 word))
      by_break seat is one false word =
          let call : Result Call Refusal = call_of_words P (next_word rest) (words_of (after_word rest)) in
          seat_asks (Some seat) is (map_ok (λ made. Some (record { seat = seat; call = made })) call) (
            call,
            subst (λ (t : Bool). MatchBool t (AsksBatch P (after_word rest) call) (AsksOne P rest call)) (sym one)
                (subst (λ (t : Bool). MatchBool t (AsksBreak P (name_word (next_word (after_word rest)))
                (parts_in (after_word (after_word rest))) call) (call ≡ call)) (sym word) refl),
            refl,
          )

      by_word : (seat : ℕ) → seat_word (next_word within) ≡ Some seat → (t : Bool) → bytes_eq (next_word rest) (codes "batch") ≡ t → Known
      by_word seat is true word = for_memory (inr ((bytes_eq-Decides (next_word rest) (codes "batch")).0 word))
      by_word seat is false word = by_break seat is word (sets_break rest) refl

      by_seat : (seat : Option ℕ) → seat_word (next_word within) ≡ seat → Known
      by_seat None is = seat_asks None is (Err BadLine) refl
      by_seat (Some seat) is = by_word seat is (bytes_eq (next_word rest) (codes "batch")) refl

    by_prefix : (t : Bool) → nat_le (length (next_word within)) 0 ≡ t → Known
    by_prefix true blank =
        short_asks (Ok None) (subst (λ (t : Bool). MatchBool t (IsKnown (Ok None) (Ok None))
        (AsksBy P (seat_word (next_word within)) rest (Ok None))) (sym blank) refl)
    by_prefix false some = by_seat some (seat_word (next_word within)) refl

  by_length : (t : Bool) → nat_lt LINE_BYTES (length line) ≡ t → Known
  by_length true long =
      (Err BadLine, inl (subst (λ (t : Bool). MatchBool t (IsKnown (Err BadLine) (Err BadLine)) (AsksWithin P within (Err BadLine))) (sym long) refl))
  by_length false short = by_prefix short (nat_le (length (next_word within)) 0) refl

  known : Known
  known = by_length (nat_lt LINE_BYTES (length line)) refl

-- A line of which this is known. Each call may be refused because memory ran out, or because the journal is full.
abbrev Answer : Program → Result (Option Request) Refusal → Journal → Type 0
Answer P asked J = (out : List ℕ) × AnswersParsed P asked J out J

call_answer : (P : Program) (request : Request) (J : Journal) (t : Bool) → nat_lt (length J) CALLS ≡ t → length J ≤ CALLS
    → Answer P (Ok (Some request)) J
call_answer P request J true below few =
    let room : length J < CALLS = grind (arith, nat_tests) in
    (as_line (reply_text P request.call (Refused Memory)), (Refused Memory, inl (room, inr (record { reported = refl; left = refl })), refl))
call_answer P request J false all few =
    let full : length J ≡ CALLS = grind (arith, nat_tests) in (
      as_line (reply_text P request.call (Refused JournalFull)),
      (Refused JournalFull, inr (record { full = full; reported = refl; left = refl }), refl),
    )

some_answer : (P : Program) (asked : Result (Option Request) Refusal) (J : Journal) → length J ≤ CALLS → Answer P asked J
some_answer P (Err refusal) J few = (as_line (refusal_text P refusal), (refl, refl))
some_answer P (Ok None) J few = ([], (refl, refl))
some_answer P (Ok (Some request)) J few = call_answer P request J (nat_lt (length J) CALLS) refl few

-- a line has an answer that makes no call
pub some_line : (P : Program) (line : List ℕ) (J : Journal) → IsLegal P J → (out : List ℕ) × AnswersLine P line J out J
some_line P line J legal =
    let asked = known P line in
    let answer = some_answer P asked.0 J legal.few in
    (answer.0, (asked.0, asked.1, answer.1))

-- whatever the answer to a line is, the journal stays legal

parsed_legal : (P : Program) (asked : Result (Option Request) Refusal) (J : Journal) (out : List ℕ) (J' : Journal)
    → AnswersParsed P asked J out J' → IsLegal P J → IsLegal P J'
parsed_legal P (Err refusal) J out J' parsed legal = subst (IsLegal P) (sym parsed.1) legal
parsed_legal P (Ok None) J out J' parsed legal = subst (IsLegal P) (sym parsed.1) legal
parsed_legal P (Ok (Some request)) J out J' parsed legal =
    makes_legal P J request.seat request.call parsed.0 J' parsed.1 legal

pub line_legal : (P : Program) (line : List ℕ) (J : Journal) (out : List ℕ) (J' : Journal) → AnswersLine P line J out J' → IsLegal P J
    → IsLegal P J'
line_legal P line J out J' answers legal = parsed_legal P answers.0 J out J' answers.2 legal

-- the journal before the first call
pub opens_legal : (P : Program) → IsLegal P []
opens_legal P = record { few = (let none : 0 ≤ CALLS = omega arith in none); due = tt }
