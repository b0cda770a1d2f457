-- The number of some digits, one digit at a time.
use Rattle.std.proofs.Common.{◌≡◌, ℕ, zero, suc, ◌+◌, ◌-◌, ◌*◌, ◌<◌, ◌≤◌, true, List, [], ◌∷◌, ◌++◌, length, get_or, take, drop, refl, sym}
use Rattle.std.proofs.Common.{ap, ◌∙◌, arith, take-append-drop}
use Rattle.std.specs.Char.{digit_value}
use Rattle.std.specs.List.{list_all}
use Rattle.std.proofs.Math.Dec.{leb}
use Rattle.std.proofs.lemmas.Bool.{leb-true}
use Rattle.proc_lang.proofs.PassingPrefixLemmas.{and_first, and_second}
use Rattle.dbg_base.specs.Tokens.{is_digit}
use Rattle.std.specs.Str.Parse.{digits_value, digits_value_after}
use Rattle.std.proofs.lemmas.Int.Digits.{digits_value_more}
use Rattle.std.proofs.lemmas.Str.{digit_value_digit}

after_append : (n : ℕ) (xs ys : List ℕ) → digits_value_after 10 n (xs ++ ys) ≡ digits_value_after 10 (digits_value_after 10 n xs) ys
after_append n [] ys = refl
after_append n (x ∷ xs) ys = after_append (n * 10 + digit_value x) xs ys

after_grows : (n : ℕ) (xs : List ℕ) → n ≤ digits_value_after 10 n xs
after_grows n [] = omega arith
after_grows n (x ∷ xs) = omega (arith, after_grows (n * 10 + digit_value x) xs)

-- the number of a prefix of the digits is at most that of all
pub prefix_is_less : (k : ℕ) (digits : List ℕ) → digits_value 10 (take k digits) ≤ digits_value 10 digits
prefix_is_less k digits =
    let whole : digits_value 10 digits ≡ digits_value_after 10 (digits_value 10 (take k digits)) (drop k digits) =
    ap (digits_value 10) (sym (take-append-drop k digits)) ∙ after_append 0 (take k digits) (drop k digits) in
    omega (arith, whole, after_grows (digits_value 10 (take k digits)) (drop k digits))

pub digit_range : (b : ℕ) → is_digit b ≡ true → (48 ≤ b) × (b ≤ 57)
digit_range b h = (leb-true 48 b (and_first (leb 48 b) (leb b 57) h), leb-true b 57 (and_second (leb 48 b) (leb b 57) h))

-- each of the digits is one
digit_at : (digits : List ℕ) (i : ℕ) → list_all is_digit digits ≡ true → i < length digits
    → (48 ≤ get_or digits i 0) × (get_or digits i 0 ≤ 57)
digit_at [] i h lt = absurd (omega arith)
digit_at (b ∷ digits) zero h lt = digit_range b (and_first (is_digit b) (list_all is_digit digits) h)
digit_at (b ∷ digits) (suc i) h lt = digit_at digits i (and_second (is_digit b) (list_all is_digit digits) h) (omega arith)

-- one more digit
pub value_more : (digits : List ℕ) (i value digit : ℕ) → list_all is_digit digits ≡ true → i < length digits
    → digit ≡ get_or digits i 0 - 48
    → value ≡ digits_value 10 (take i digits) → value * 10 + digit ≡ digits_value 10 (take (i + 1) digits)
value_more digits i value digit all lt here so_far =
    let more = digits_value_more 10 digits i lt in
    let range = digit_at digits i all lt in
    let known : digit_value (get_or digits i 0) + 48 ≡ get_or digits i 0 = digit_value_digit (get_or digits i 0) range in
    omega (arith, more, known, so_far, here)
