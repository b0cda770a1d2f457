-- The token at the beginning of a text, decided by its first byte.
use Rattle.std.proofs.Common.{◌≡◌, ℕ, suc, ◌+◌, ◌≤◌, Bool, true, false, cond, List, [], ◌∷◌, ◌++◌, length, take, drop, refl, sym, ap, ◌∙◌}
use Rattle.std.proofs.Common.{subst, arith, zero-le, one-add, take-append-drop, ◌||◌}
use Rattle.std.specs.Prelude.{◌==◌, nat_le, Some, slice_get}
use Rattle.std.specs.List.{list_all, prefix_len}
use Rattle.std.specs.Str.Parse.{digits_value}
use Rattle.std.proofs.lemmas.Bool.{false≢true, leb-true}
use Rattle.std.proofs.lemmas.List.{length-take-le}
use Rattle.std.proofs.lemmas.List.Sums.{prefix_len-le-length}
use Rattle.dbg_base.specs.Tokens.{Token, Word, Number, Symbol, sign_bytes, is_space, is_letter, is_digit, is_word_byte, is_word, is_numeral}
use Rattle.dbg_base.specs.Tokens.{Spells}
use Rattle.dbg_base.specs.declared.sign.Sign.{Sign}
use Rattle.dbg_base.specs.declared.sign.Sign.TheVariants.{OpenBrace, CloseBrace, OpenParenthesis, CloseParenthesis, Semicolon, Colon}
use Rattle.dbg_base.specs.declared.sign.Sign.TheVariants.{Becomes, Comma, Equals, NotEquals, LessThan, AtMost, GreaterThan, AtLeast, Plus}
use Rattle.dbg_base.specs.declared.sign.Sign.TheVariants.{Minus, Star, Slash, Percent}
use Rattle.proc_lang.specs.Scanning.{IsBefore}
use Rattle.proc_lang.proofs.PassingPrefixLemmas.{and_first, and_second, both_true, or_first, prefix_passes, prefix_is_longest}

-- a byte with which a sign begins
abbrev pub IsMark : ℕ → Type 0
IsMark b = (is_letter b ≡ false) × (is_digit b ≡ false) × (is_space b ≡ false)

mark_at : (v b : ℕ) → v ≡ b → IsMark v → IsMark b
mark_at v b e mark = subst IsMark e mark

pub sign_first : (sign : Sign) (b : ℕ) (bytes more : List ℕ) → sign_bytes sign ++ more ≡ b ∷ bytes → IsMark b
sign_first OpenBrace b bytes more e = mark_at 123 b (cc) (refl, refl, refl)
sign_first CloseBrace b bytes more e = mark_at 125 b (cc) (refl, refl, refl)
sign_first OpenParenthesis b bytes more e = mark_at 40 b (cc) (refl, refl, refl)
sign_first CloseParenthesis b bytes more e = mark_at 41 b (cc) (refl, refl, refl)
sign_first Semicolon b bytes more e = mark_at 59 b (cc) (refl, refl, refl)
sign_first Colon b bytes more e = mark_at 58 b (cc) (refl, refl, refl)
sign_first Becomes b bytes more e = mark_at 58 b (cc) (refl, refl, refl)
sign_first Comma b bytes more e = mark_at 44 b (cc) (refl, refl, refl)
sign_first Equals b bytes more e = mark_at 61 b (cc) (refl, refl, refl)
sign_first NotEquals b bytes more e = mark_at 33 b (cc) (refl, refl, refl)
sign_first LessThan b bytes more e = mark_at 60 b (cc) (refl, refl, refl)
sign_first AtMost b bytes more e = mark_at 60 b (cc) (refl, refl, refl)
sign_first GreaterThan b bytes more e = mark_at 62 b (cc) (refl, refl, refl)
sign_first AtLeast b bytes more e = mark_at 62 b (cc) (refl, refl, refl)
sign_first Plus b bytes more e = mark_at 43 b (cc) (refl, refl, refl)
sign_first Minus b bytes more e = mark_at 45 b (cc) (refl, refl, refl)
sign_first Star b bytes more e = mark_at 42 b (cc) (refl, refl, refl)
sign_first Slash b bytes more e = mark_at 47 b (cc) (refl, refl, refl)
sign_first Percent b bytes more e = mark_at 37 b (cc) (refl, refl, refl)

pub letter_is_no_digit : (b : ℕ) → is_letter b ≡ true → is_digit b ≡ true → ⊥
letter_is_no_digit b letter digit =
    let low : 97 ≤ b = leb-true 97 b (and_first (nat_le 97 b) (nat_le b 122) letter) in
    let high : b ≤ 57 = leb-true b 57 (and_second (nat_le 48 b) (nat_le b 57) digit) in
    omega arith

letter_is_word_byte : (b : ℕ) → is_letter b ≡ true → is_word_byte b ≡ true
letter_is_word_byte b letter = or_first (is_letter b || is_digit b) (b == 95) (or_first (is_letter b) (is_digit b) letter)

pub clash : {A : Type 0} (b : Bool) → b ≡ true → b ≡ false → A
clash b is is_not = absurd (false≢true (sym is_not ∙ is))

-- a token is at the beginning, if no longer prefix of these bytes is the text of one
pub is_first : (token : Token) (n : ℕ) (bytes : List ℕ) → n ≤ length bytes → Spells token (take n bytes)
    → ((longer more : List ℕ) (other : Token) → Spells other longer → longer ++ more ≡ bytes → length longer ≤ n)
    → IsBefore token n bytes
is_first token n bytes within spelled no_longer = record {
  within = within;
  spelled = spelled;
  longest = λ longer more other writes same.
      let size : length (take n bytes) ≡ n = length-take-le n bytes within in
      omega (arith, size, no_longer longer more other writes (same ∙ take-append-drop n bytes));
}

-- the first byte of the text of a token
pub word_first : (c : ℕ) (tail word : List ℕ) → c ∷ tail ≡ word → is_word word ≡ true → is_word (c ∷ tail) ≡ true
word_first c tail word same h = subst (λ w. is_word w ≡ true) (sym same) h

pub same_first : (b c : ℕ) (bytes tail more : List ℕ) → (c ∷ tail) ++ more ≡ b ∷ bytes → c ≡ b
same_first b c bytes tail more same = cc

-- after a letter the longest token is a word
module _ (b : ℕ) (bytes : List ℕ) (letter : is_letter b ≡ true) where
  word_size : prefix_len is_word_byte (b ∷ bytes) ≡ suc (prefix_len is_word_byte bytes)
  word_size =
      ap (λ t. cond t (1 + prefix_len is_word_byte bytes) 0) (letter_is_word_byte b letter) ∙ one-add (prefix_len is_word_byte bytes)

  word_spelled : is_word (take (prefix_len is_word_byte (b ∷ bytes)) (b ∷ bytes)) ≡ true
  word_spelled = subst (λ k. is_word (take k (b ∷ bytes)) ≡ true) (sym word_size)
      (both_true (is_letter b) (list_all is_word_byte (take (prefix_len is_word_byte bytes) bytes)) letter
      (prefix_passes is_word_byte bytes))

  word_longest : (longer more : List ℕ) (other : Token) → Spells other longer → longer ++ more ≡ b ∷ bytes
      → length longer ≤ prefix_len is_word_byte (b ∷ bytes)
  word_longest [] more other writes same = zero-le
  word_longest (c ∷ tail) more (Word word) writes same =
      let h = word_first c tail word writes.0 writes.1 in
      let all : list_all is_word_byte (c ∷ tail) ≡ true =
      both_true (is_word_byte c) (list_all is_word_byte tail)
      (letter_is_word_byte c (and_first (is_letter c) (list_all is_word_byte tail) h))
      (and_second (is_letter c) (list_all is_word_byte tail) h) in
      subst (λ whole. length (c ∷ tail) ≤ prefix_len is_word_byte whole) same (prefix_is_longest is_word_byte (c ∷ tail) more all)
  word_longest (c ∷ tail) more (Number value) writes same =
      let digit = and_first (is_digit c) (list_all is_digit tail) writes.0 in
      absurd (letter_is_no_digit b letter (subst (λ x. is_digit x ≡ true) (same_first b c bytes tail more same) digit))
  word_longest (c ∷ tail) more (Symbol sign) writes same =
      clash (is_letter b) letter (sign_first sign b bytes more (ap (λ z. z ++ more) (sym writes) ∙ same)).0

  pub word_is_first : IsBefore (Word (take (prefix_len is_word_byte (b ∷ bytes)) (b ∷ bytes))) (prefix_len is_word_byte (b ∷ bytes))
      (b ∷ bytes)
  word_is_first = is_first _ _ _ (prefix_len-le-length is_word_byte (b ∷ bytes)) (refl, word_spelled) word_longest

-- after a digit the longest token is a number
module _ (b : ℕ) (bytes : List ℕ) (digit : is_digit b ≡ true) where
  number_size : prefix_len is_digit (b ∷ bytes) ≡ suc (prefix_len is_digit bytes)
  number_size = ap (λ t. cond t (1 + prefix_len is_digit bytes) 0) digit ∙ one-add (prefix_len is_digit bytes)

  number_spelled : is_numeral (take (prefix_len is_digit (b ∷ bytes)) (b ∷ bytes)) ≡ true
  number_spelled = subst (λ k. is_numeral (take k (b ∷ bytes)) ≡ true) (sym number_size)
      (both_true (is_digit b) (list_all is_digit (take (prefix_len is_digit bytes) bytes)) digit (prefix_passes is_digit bytes))

  number_longest : (longer more : List ℕ) (other : Token) → Spells other longer → longer ++ more ≡ b ∷ bytes
      → length longer ≤ prefix_len is_digit (b ∷ bytes)
  number_longest [] more other writes same = zero-le
  number_longest (c ∷ tail) more (Word word) writes same =
      let h = word_first c tail word writes.0 writes.1 in
      let letter = and_first (is_letter c) (list_all is_word_byte tail) h in
      absurd (letter_is_no_digit b (subst (λ x. is_letter x ≡ true) (same_first b c bytes tail more same) letter) digit)
  number_longest (c ∷ tail) more (Number value) writes same =
      subst (λ whole. length (c ∷ tail) ≤ prefix_len is_digit whole) same (prefix_is_longest is_digit (c ∷ tail) more writes.0)
  number_longest (c ∷ tail) more (Symbol sign) writes same =
      clash (is_digit b) digit (sign_first sign b bytes more (ap (λ z. z ++ more) (sym writes) ∙ same)).1

  pub number_is_first : IsBefore (Number (digits_value 10 (take (prefix_len is_digit (b ∷ bytes)) (b ∷ bytes))))
      (prefix_len is_digit (b ∷ bytes)) (b ∷ bytes)
  number_is_first = is_first _ _ _ (prefix_len-le-length is_digit (b ∷ bytes)) (number_spelled, refl) number_longest

-- bytes whose first one is known
first_known : (bytes : List ℕ) (b : ℕ) → Some b ≡ slice_get bytes 0 → bytes ≡ b ∷ drop 1 bytes
first_known [] b known = cc
first_known (c ∷ bytes) b known = let e : b ≡ c = cc in ap (λ x. x ∷ bytes) (sym e)

pub word_before : (bytes : List ℕ) (b n : ℕ) → Some b ≡ slice_get bytes 0 → is_letter b ≡ true → n ≡ prefix_len is_word_byte bytes
    → IsBefore (Word (take n bytes)) n bytes
word_before bytes b n known letter size =
    let e = first_known bytes b known in
    let at_size : IsBefore (Word (take (prefix_len is_word_byte bytes) bytes)) (prefix_len is_word_byte bytes) bytes =
    subst (λ (whole : List ℕ). IsBefore (Word (take (prefix_len is_word_byte whole) whole)) (prefix_len is_word_byte whole) whole)
    (sym e) (word_is_first b (drop 1 bytes) letter) in
    subst (λ (k : ℕ). IsBefore (Word (take k bytes)) k bytes) (sym size) at_size

pub number_before : (bytes : List ℕ) (b n : ℕ) → Some b ≡ slice_get bytes 0 → is_digit b ≡ true → n ≡ prefix_len is_digit bytes
    → IsBefore (Number (digits_value 10 (take n bytes))) n bytes
number_before bytes b n known digit size =
    let e = first_known bytes b known in
    let at_size : IsBefore (Number (digits_value 10 (take (prefix_len is_digit bytes) bytes))) (prefix_len is_digit bytes) bytes =
    subst (λ (whole : List ℕ). IsBefore (Number (digits_value 10 (take (prefix_len is_digit whole) whole)))
    (prefix_len is_digit whole) whole) (sym e) (number_is_first b (drop 1 bytes) digit) in
    subst (λ (k : ℕ). IsBefore (Number (digits_value 10 (take k bytes))) k bytes) (sym size) at_size
