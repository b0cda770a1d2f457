-- A line with words in place of values, word after word.
use Rattle.std.proofs.Common.{◌≡◌, ℕ, List, [], ◌∷◌, ◌++◌, sym, ap, ◌∙◌, append_assoc, subst, take, drop}
use Rattle.std.proofs.lemmas.List.{take-append-drop}
use Rattle.std.specs.Prelude.{ℤ}
use Rattle.std.specs.Fmt.{signed_decimal}
use Rattle.ui_session.specs.Named.{HasWords, IsWordAfter, plain_text}
use Rattle.ui_session.specs.Named.HasWords.{Plainly, InPlaceOf}

-- a text is its two parts
pub split_whole : (n : ℕ) (text before after : List ℕ) → before ≡ take n text → after ≡ drop n text → text ≡ before ++ after
split_whole n text before after front back =
    sym (ap (λ (t : List ℕ). t ++ after) front ∙ ap (λ (t : List ℕ). take n text ++ t) back ∙ take-append-drop n text)

-- The line is read as what was read, and then as the rest of it is.
abbrev pub ReadsOn : ℕ → List ℕ → List ℕ → List ℕ → Type 0
ReadsOn mark line rest read = (due : List ℕ) → HasWords mark due rest → HasWords mark (read ++ due) line

pub none_read : (mark : ℕ) (line : List ℕ) → ReadsOn mark line line []
none_read mark line due h = h

-- one more word
pub word_read : (mark : ℕ) (line rest old new before word after : List ℕ) (value : ℤ) → ReadsOn mark line rest old
    → IsWordAfter mark before word after → rest ≡ before ++ (word ++ after)
    → new ≡ old ++ (plain_text before ++ signed_decimal value) → ReadsOn mark line after new
word_read mark line rest old new before word after value so_far is parts made due h =
    let plain = plain_text before in
    let number = signed_decimal value in
    let same : old ++ (plain ++ (number ++ due)) ≡ new ++ due =
    sym (ap (λ (t : List ℕ). t ++ due) made ∙ append_assoc old (plain ++ number) due
    ∙ ap (λ (t : List ℕ). old ++ t) (append_assoc plain number due)) in
    let here : HasWords mark (plain ++ (number ++ due)) rest =
    subst (λ t. HasWords mark (plain ++ (number ++ due)) t) (sym parts) (InPlaceOf value before word is h) in
    subst (λ t. HasWords mark t line) same (so_far (plain ++ (number ++ due)) here)

-- the rest of the line is plain
pub all_read : (mark : ℕ) (line rest old new : List ℕ) → ReadsOn mark line rest old → new ≡ old ++ plain_text rest
    → HasWords mark new line
all_read mark line rest old new so_far made =
    subst (λ t. HasWords mark t line) (sym made) (so_far (plain_text rest) (Plainly rest))
