-- The output for an input is determined, if no call is refused as out of memory.
use Rattle.std.proofs.Common.{◌≡◌, inl, inr, ℕ, List, [], ◌∷◌, ◌++◌, Option, Some, None, Result, Ok, Err, refl, sym, ap, ◌∙◌, subst}
use Rattle.std.proofs.Common.{arith, append_assoc}
use Rattle.std.specs.Prelude.{codes}
use Rattle.std.specs.Fmt.{decimal}
use Rattle.std.proofs.lemmas.Fmt.{decimal-digits_of}
use Rattle.dbg_base.specs.declared.said.Said.{Said}
use Rattle.dbg_base.specs.declared.said.Said.TheVariants.{Refused}
use Rattle.dbg_base.specs.declared.refusal.Refusal.{Refusal}
use Rattle.dbg_base.specs.declared.refusal.Refusal.TheVariants.{Memory}
use Rattle.dbg_base.specs.Trees.{Program}
use Rattle.dbg_base.specs.Grammar.{DerivesProgram}
use Rattle.dbg_base.specs.Checks.{check_faults, program_tree}
use Rattle.dbg_base.specs.Calls.{Call, Give, Back, Ask}
use Rattle.dbg_base.specs.Journals.{Journal, effective, Makes}
use Rattle.dbg_base.specs.CommandLines.{Request}
use Rattle.dbg_base.specs.Requests.{Asks, AsksOrRefuses}
use Rattle.dbg_base.specs.Replies.{joined, reply_text, refusal_text}
use Rattle.dbg_base.specs.Shell.{Parts, as_line, AnswersParsed, AnswersLines, end_text, fault_text, TextOfParts}
use Rattle.dbg_laws.proofs.OneAnswer.{due_once}
use Rattle.proc_lang.proofs.WholeTextLemmas.{program_once}
use Rattle.proc_lang.proofs.Texts.{reads_well, reads_once, fault_once}
use Rattle.shell_serve.specs.Ample.{IsAmple}
use Rattle.shell_serve.proofs.AskedOnce.{asks_once}
use Rattle.shell_serve.proofs.OutputLineLemmas.{ample_rest, not_refused}

twenty_one : decimal 21 ≡ codes "21"
twenty_one = decimal-digits_of 21 (omega arith) (omega arith) ∙ refl

refusal_is : (P : Program) → refusal_text P Memory ≡ codes "no 21"
refusal_is P = ap (λ (d : List ℕ). joined (codes "no" ∷ d ∷ [])) twenty_one

memory_text : (P : Program) (call : Call) → reply_text P call (Refused Memory) ≡ codes "no 21"
memory_text P (Give order) = refusal_is P
memory_text P Back = refusal_is P
memory_text P (Ask query) = refusal_is P

module _ (P : Program) where
  refused_line : (text rest : List ℕ) → text ≡ codes "no 21" → IsAmple (as_line text ++ rest) → ⊥
  refused_line text rest is ample = not_refused rest (subst (λ (t : List ℕ). IsAmple (as_line t ++ rest)) is ample)

  -- a line is not refused for memory
  asks : (line : List ℕ) (asked : Result (Option Request) Refusal) (J : Journal) (out : List ℕ) (J' : Journal) (rest : List ℕ)
      → AsksOrRefuses P line asked → AnswersParsed P asked J out J' → IsAmple (out ++ rest) → Asks P line asked
  asks line asked J out J' rest (inl is) answers ample = is
  asks line asked J out J' rest (inr (takes, refused)) answers ample =
      let is = subst (λ (r : Result (Option Request) Refusal). AnswersParsed P r J out J') refused answers in
      absurd (refused_line (refusal_text P Memory) rest (refusal_is P) (subst (λ (o : List ℕ). IsAmple (o ++ rest)) is.0 ample))

  missed : (call : Call) (said : Said) (rest : List ℕ) → said ≡ Refused Memory → IsAmple (as_line (reply_text P call said) ++ rest) → ⊥
  missed call said rest is =
      refused_line (reply_text P call said) rest (ap (reply_text P call) is ∙ memory_text P call)

  -- a call has one answer, and makes one journal
  made_once : (seat : ℕ) (call : Call) (J : Journal) (said other : Said) (J1 J2 : Journal) (rest rest' : List ℕ) → Makes P J seat call said J1
      → Makes P J seat call other J2 → IsAmple (as_line (reply_text P call said) ++ rest)
      → IsAmple (as_line (reply_text P call other) ++ rest') → (said ≡ other) × (J1 ≡ J2)
  made_once seat call J said other J1 J2 rest rest' (inl (less, inl enters)) (inl (less', inl enters')) ample ample' =
      let same = due_once P (effective J) seat call said other enters.due enters'.due in (
        same,
        enters.entered
            ∙ ap (λ (s : Said). J ++ record { seat = seat; call = call; said = s } ∷ []) same
            ∙ sym enters'.entered,
      )
  made_once seat call J said other J1 J2 rest rest' (inl (less, inr misses)) second ample ample' =
      absurd (missed call said rest misses.reported ample)
  made_once seat call J said other J1 J2 rest rest' first (inl (less, inr misses)) ample ample' =
      absurd (missed call other rest' misses.reported ample')
  made_once seat call J said other J1 J2 rest rest' (inl (less, inl enters)) (inr over) ample ample' =
      absurd (let full = over.full in omega (arith, less, full))
  made_once seat call J said other J1 J2 rest rest' (inr over) (inl (less, inl enters)) ample ample' =
      absurd (let full = over.full in omega (arith, less, full))
  made_once seat call J said other J1 J2 rest rest' (inr over) (inr over') ample ample' =
      (over.reported ∙ sym over'.reported, over.left ∙ sym over'.left)

  parsed_once : (asked : Result (Option Request) Refusal) (J : Journal) (out other : List ℕ) (J1 J2 : Journal) (rest rest' : List ℕ)
      → AnswersParsed P asked J out J1 → AnswersParsed P asked J other J2 → IsAmple (out ++ rest) → IsAmple (other ++ rest')
      → (out ≡ other) × (J1 ≡ J2)
  parsed_once (Err refusal) J out other J1 J2 rest rest' is too ample ample' = (is.0 ∙ sym too.0, is.1 ∙ sym too.1)
  parsed_once (Ok None) J out other J1 J2 rest rest' is too ample ample' = (is.0 ∙ sym too.0, is.1 ∙ sym too.1)
  parsed_once (Ok (Some request)) J out other J1 J2 rest rest' is too ample ample' =
      let one = made_once request.seat request.call J is.0 too.0 J1 J2 rest rest' is.1 too.1
      (subst (λ (o : List ℕ). IsAmple (o ++ rest)) is.2 ample) (subst (λ (o : List ℕ). IsAmple (o ++ rest')) too.2 ample') in
      (is.2 ∙ ap (λ (s : Said). as_line (reply_text P request.call s)) one.0 ∙ sym too.2, one.1)

  -- what comes after the output for a line
  after_line : (text out rest : List ℕ) → out ≡ as_line text → IsAmple (out ++ rest) → IsAmple rest
  after_line text out rest is ample =
      ample_rest text rest
      (subst IsAmple (append_assoc text (10 ∷ []) rest) (subst (λ (o : List ℕ). IsAmple (o ++ rest)) is ample))

  after_parsed : (asked : Result (Option Request) Refusal) (J : Journal) (out : List ℕ) (J' : Journal) (rest : List ℕ)
      → AnswersParsed P asked J out J' → IsAmple (out ++ rest) → IsAmple rest
  after_parsed (Err refusal) J out J' rest is ample = after_line (refusal_text P refusal) out rest is.0 ample
  after_parsed (Ok None) J out J' rest is ample = subst (λ (o : List ℕ). IsAmple (o ++ rest)) is.0 ample
  after_parsed (Ok (Some request)) J out J' rest is ample = after_line (reply_text P request.call is.0) out rest is.2 ample

  lines_once : (lines : List (List ℕ)) (J : Journal) (out other : List ℕ) (J1 J2 : Journal) (tail : List ℕ)
      → AnswersLines P lines J out J1 → AnswersLines P lines J other J2 → IsAmple (out ++ tail) → IsAmple (other ++ tail) → out ≡ other
  lines_once [] J out other J1 J2 tail is too ample ample' = is.0 ∙ sym too.0
  lines_once (line ∷ lines) J out other J1 J2 tail (first, others, between, (asked, may, answers), rest, is)
      (first', others', between', (asked', may', answers'), rest', too) ample ample' =
      let here = subst IsAmple (append_assoc first others tail) (subst (λ (o : List ℕ). IsAmple (o ++ tail)) is ample) in
      let here' = subst IsAmple (append_assoc first' others' tail) (subst (λ (o : List ℕ). IsAmple (o ++ tail)) too ample') in
      let same = asks_once P line asked asked' (asks line asked J first between (others ++ tail) may answers here)
      (asks line asked' J first' between' (others' ++ tail) may' answers' here') in
      let one = parsed_once asked J first first' between between' (others ++ tail) (others' ++ tail) answers
      (subst (λ (r : Result (Option Request) Refusal). AnswersParsed P r J first' between') (sym same) answers') here here' in
      let later = lines_once lines between others others' J1 J2 tail rest
      (subst (λ (K : Journal). AnswersLines P lines K others' J2) (sym one.1) rest')
      (after_parsed asked J first between (others ++ tail) answers here)
      (after_parsed asked' J first' between' (others' ++ tail) answers' here') in
      is ∙ ap (λ (o : List ℕ). o ++ others) one.0 ∙ ap (λ (o : List ℕ). first' ++ o) later ∙ sym too

pub text_once : (input : List ℕ) (parts : Option Parts) (out other : List ℕ) → TextOfParts input parts out → TextOfParts input parts other
    → IsAmple out → IsAmple other → out ≡ other
text_once input None out other is too ample ample' = is ∙ sym too
text_once input (Some parts) out other (inl (P, reads, replies, (J, answers, legal), is)) (inl (Q, reads', replies', (K, answers', legal'), too))
    ample ample' =
    let same = reads_once DerivesProgram check_faults program_tree program_once parts.program P Q reads reads' in
    let one = lines_once P parts.commands [] replies replies' J K (end_text input) answers
    (subst (λ (R : Program). AnswersLines R parts.commands [] replies' K) (sym same) answers') (subst IsAmple is ample)
    (subst IsAmple too ample') in
    is ∙ ap (λ (o : List ℕ). o ++ end_text input) one ∙ sym too
text_once input (Some parts) out other (inl (P, reads, replies, all, is)) (inr (fault, faulty, too)) ample ample' =
    absurd (reads_well DerivesProgram check_faults program_tree program_once parts.program P fault reads faulty)
text_once input (Some parts) out other (inr (fault, faulty, is)) (inl (P, reads, replies, all, too)) ample ample' =
    absurd (reads_well DerivesProgram check_faults program_tree program_once parts.program P fault reads faulty)
text_once input (Some parts) out other (inr (fault, faulty, is)) (inr (fault', faulty', too)) ample ample' =
    is ∙ ap fault_text (fault_once DerivesProgram check_faults program_tree program_once parts.program fault fault' faulty faulty') ∙ sym too
