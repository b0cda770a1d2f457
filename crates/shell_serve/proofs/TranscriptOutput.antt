-- The entries that lines make are what they add to a journal. From the empty one on, they are legal, and so they are a transcript.
use Rattle.std.proofs.Common.{◌≡◌, inl, inr, ℕ, List, [], ◌∷◌, ◌++◌, Option, Some, None, Result, Ok, Err, refl, sym, ap, ◌∙◌, subst, append_assoc}
use Rattle.std.proofs.Common.{append-nil}
use Rattle.dbg_base.specs.declared.said.Said.{Said}
use Rattle.dbg_base.specs.declared.refusal.Refusal.{Refusal}
use Rattle.dbg_base.specs.Trees.{Program}
use Rattle.dbg_base.specs.Journals.{Journal, Makes, IsLegal}
use Rattle.dbg_base.specs.CommandLines.{Request}
use Rattle.dbg_base.specs.Replies.{reply_text}
use Rattle.dbg_base.specs.Shell.{Parts, as_line, AnswersParsed, AnswersLines, TextOfParts}
use Rattle.dbg_laws.proofs.TranscriptLemmas.{transcript}
use Rattle.shell_serve.specs.Outputs.{WritesParsed, WritesLines, TranscriptOutput}

module _ (P : Program) where
  -- what a parsed line adds to the journal
  Added : Result (Option Request) Refusal → Journal → List ℕ → Journal → Type 0
  Added asked J out J' = (made : Journal) × WritesParsed P asked out made × (J' ≡ J ++ made)

  call_adds : (request : Request) (J : Journal) (out : List ℕ) (J' : Journal) (said : Said)
      → out ≡ as_line (reply_text P request.call said) → Makes P J request.seat request.call said J' → Added (Ok (Some request)) J out J'
  unfolding Added
  call_adds request J out J' said is (inl (few, inl enters)) =
      (record { seat = request.seat; call = request.call; said = said } ∷ [], (said, is, inl refl), enters.entered)
  call_adds request J out J' said is (inl (few, inr misses)) =
      ([], (said, is, inr (refl, inl misses.reported)), misses.left ∙ sym (append-nil J))
  call_adds request J out J' said is (inr over) = ([], (said, is, inr (refl, inr over.reported)), over.left ∙ sym (append-nil J))

  line_adds : (asked : Result (Option Request) Refusal) (J : Journal) (out : List ℕ) (J' : Journal) → AnswersParsed P asked J out J'
      → Added asked J out J'
  unfolding Added
  line_adds (Err refusal) J out J' is = ([], (is.0, refl), is.1 ∙ sym (append-nil J))
  line_adds (Ok None) J out J' is = ([], (is.0, refl), is.1 ∙ sym (append-nil J))
  line_adds (Ok (Some request)) J out J' is = call_adds request J out J' is.0 is.2 is.1

  lines_add : (lines : List (List ℕ)) (J : Journal) (out : List ℕ) (J' : Journal) → AnswersLines P lines J out J'
      → (made : Journal) × WritesLines P lines out made × (J' ≡ J ++ made)
  unfolding Added
  lines_add [] J out J' is = ([], (is.0, refl), is.1 ∙ sym (append-nil J))
  lines_add (line ∷ lines) J out J' (first, others, between, (asked, may, answers), rest, is) =
      let one = line_adds asked J first between answers in
      let later = lines_add lines between others J' rest in (
        one.0 ++ later.0,
        (asked, may, first, others, one.0, later.0, one.1, later.1, is, refl),
        later.2 ∙ ap (λ (K : Journal). K ++ later.0) one.2 ∙ append_assoc J one.0 later.0,
      )

pub transcript_in : (input : List ℕ) (parts : Option Parts) (out : List ℕ) → TextOfParts input parts out → TranscriptOutput input parts out
transcript_in input None out is = is
transcript_in input (Some parts) out (inl (P, reads, replies, (J, answers, legal), is)) =
    let a = lines_add P parts.commands [] replies J answers in
    inl (P, reads, replies, a.0, a.1, transcript P a.0 (subst (λ (K : Journal). IsLegal P K) a.2 legal), is)
transcript_in input (Some parts) out (inr refused) = inr refused
