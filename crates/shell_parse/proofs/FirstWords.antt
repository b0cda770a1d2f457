-- The words of a line, from its beginning.
use Rattle.std.proofs.Common.{◌≡◌, ◌≢◌, ℕ, zero, suc, ◌<◌, Bool, true, false, not, eqb, List, [], ◌∷◌, length, get_or, take, drop}
use Rattle.std.proofs.Common.{refl, sym, ap, ◌∙◌, arith, one-add}
use Rattle.std.specs.List.{prefix_len}
use Rattle.std.proofs.lemmas.Bool.{eqb-true}
use Rattle.dbg_base.specs.CommandLines.{is_blank, words_of, before_first_word, without_return, without_blanks, word_prefix}
use Rattle.dbg_base.specs.CommandLines.{next_word, after_word}

-- a byte of a word
abbrev pub is_inner : ℕ → Bool
is_inner b = not (is_blank b)

inner_word_by : (b c : ℕ) (bytes : List ℕ) (t : Bool) → is_blank b ≡ false → is_blank c ≡ t
    → (is_blank c ≡ false → words_of (c ∷ bytes) ≡ (c ∷ word_prefix bytes) ∷ words_of (drop (length (word_prefix bytes)) bytes))
    → words_of (b ∷ c ∷ bytes) ≡ (b ∷ word_prefix (c ∷ bytes)) ∷ words_of (drop (length (word_prefix (c ∷ bytes))) (c ∷ bytes))
inner_word_by b c bytes true e f others =
    let prefix : words_of (b ∷ c ∷ bytes) ≡ (b ∷ []) ∷ words_of (c ∷ bytes) = rw (e, f) refl in
    let nothing : word_prefix (c ∷ bytes) ≡ [] = rw f refl in
    prefix ∙ ap (λ (word : List ℕ). (b ∷ word) ∷ words_of (drop (length word) (c ∷ bytes))) (sym nothing)
inner_word_by b c bytes false e f others =
    let prefix : words_of (b ∷ c ∷ bytes) ≡ before_first_word b (words_of (c ∷ bytes)) = rw (e, f) refl in
    let longer : word_prefix (c ∷ bytes) ≡ c ∷ word_prefix bytes = rw f refl in
    prefix ∙ ap (before_first_word b) (others f)
    ∙ ap (λ (word : List ℕ). (b ∷ word) ∷ words_of (drop (length word) (c ∷ bytes))) (sym longer)

inner_word : (b : ℕ) (bytes : List ℕ) → is_blank b ≡ false
    → words_of (b ∷ bytes) ≡ (b ∷ word_prefix bytes) ∷ words_of (drop (length (word_prefix bytes)) bytes)
inner_word b [] e = rw e refl
inner_word b (c ∷ bytes) e = inner_word_by b c bytes (is_blank c) e refl (inner_word c bytes)

-- the words are the first one and those after it
abbrev BeginsWithWord : List ℕ → Type 0
BeginsWithWord bytes = 0 < length (next_word bytes) → words_of bytes ≡ next_word bytes ∷ words_of (after_word bytes)

begins_by : (b : ℕ) (bytes : List ℕ) (t : Bool) → is_blank b ≡ t → BeginsWithWord bytes → BeginsWithWord (b ∷ bytes)
begins_by b bytes true e after = rw e after
begins_by b bytes false e after = λ some.
    let stays : without_blanks (b ∷ bytes) ≡ b ∷ bytes = rw e refl in
    let word : word_prefix (b ∷ bytes) ≡ b ∷ word_prefix bytes = rw e refl in
    let next : next_word (b ∷ bytes) ≡ b ∷ word_prefix bytes = ap word_prefix stays ∙ word in
    inner_word b bytes e
    ∙ ap (λ (w : List ℕ). w ∷ words_of (drop (length w) (b ∷ bytes))) (sym next)
    ∙ ap (λ (rest : List ℕ). next_word (b ∷ bytes) ∷ words_of (drop (length (next_word (b ∷ bytes))) rest)) (sym stays)

pub begins_with_word : (bytes : List ℕ) → BeginsWithWord bytes
begins_with_word [] = λ some. absurd (omega arith)
begins_with_word (b ∷ bytes) = begins_by b bytes (is_blank b) refl (begins_with_word bytes)

no_word_by : (b : ℕ) (bytes : List ℕ) (t : Bool) → is_blank b ≡ t → (length (next_word bytes) ≡ 0 → words_of bytes ≡ [])
    → length (next_word (b ∷ bytes)) ≡ 0 → words_of (b ∷ bytes) ≡ []
no_word_by b bytes true e after = rw e after
no_word_by b bytes false e after = λ none.
    let stays : without_blanks (b ∷ bytes) ≡ b ∷ bytes = rw e refl in
    let word : word_prefix (b ∷ bytes) ≡ b ∷ word_prefix bytes = rw e refl in
    let next : length (next_word (b ∷ bytes)) ≡ suc (length (word_prefix bytes)) = ap length (ap word_prefix stays ∙ word) in
    absurd (omega arith)

-- without a first word there are no words
pub no_word : (bytes : List ℕ) → length (next_word bytes) ≡ 0 → words_of bytes ≡ []
no_word [] = λ none. refl
no_word (b ∷ bytes) = no_word_by b bytes (is_blank b) refl (no_word bytes)

word_length_by : (b : ℕ) (bytes : List ℕ) (t : Bool) → is_blank b ≡ t → length (word_prefix bytes) ≡ prefix_len is_inner bytes
    → length (word_prefix (b ∷ bytes)) ≡ prefix_len is_inner (b ∷ bytes)
word_length_by b bytes true e h = rw e refl
word_length_by b bytes false e h = rw e (ap suc h ∙ sym (one-add _))

-- the first word has as many bytes as there are nonblank ones at the beginning
pub word_length_is : (bytes : List ℕ) → length (word_prefix bytes) ≡ prefix_len is_inner bytes
word_length_is [] = refl
word_length_is (b ∷ bytes) = word_length_by b bytes (is_blank b) refl (word_length_is bytes)

word_taken_by : (b : ℕ) (bytes : List ℕ) (t : Bool) → is_blank b ≡ t → take (length (word_prefix bytes)) bytes ≡ word_prefix bytes
    → take (length (word_prefix (b ∷ bytes))) (b ∷ bytes) ≡ word_prefix (b ∷ bytes)
word_taken_by b bytes true e h = rw e refl
word_taken_by b bytes false e h = rw e (ap (λ (rest : List ℕ). b ∷ rest) h)

-- and is a prefix
pub word_taken : (bytes : List ℕ) → take (length (word_prefix bytes)) bytes ≡ word_prefix bytes
word_taken [] = refl
word_taken (b ∷ bytes) = word_taken_by b bytes (is_blank b) refl (word_taken bytes)

-- a carriage return at the end is dropped
pub return_dropped : (line : List ℕ) (n : ℕ) → length line ≡ suc n → get_or line n 0 ≡ 13 → take n line ≡ without_return line
return_dropped [] n e h = absurd (omega arith)
return_dropped (b ∷ []) zero e h = rw h refl
return_dropped (b ∷ []) (suc n) e h = absurd (omega arith)
return_dropped (b ∷ c ∷ line) zero e h = absurd (omega arith)
return_dropped (b ∷ c ∷ line) (suc n) e h = ap (λ rest. b ∷ rest) (return_dropped (c ∷ line) n (omega arith) h)

kept_by : (b : ℕ) (t : Bool) → eqb b 13 ≡ t → b ≢ 13 → b ∷ [] ≡ without_return (b ∷ [])
kept_by b true e h = absurd (h (eqb-true b 13 e))
kept_by b false e h = rw e refl

-- any other last byte is kept
pub return_missing : (line : List ℕ) → ((n : ℕ) → length line ≡ suc n → get_or line n 0 ≢ 13) → line ≡ without_return line
return_missing [] h = refl
return_missing (b ∷ []) h = kept_by b (eqb b 13) refl (h 0 refl)
return_missing (b ∷ c ∷ line) h = ap (λ rest. b ∷ rest) (return_missing (c ∷ line) (λ n e. h (suc n) (ap suc e)))
