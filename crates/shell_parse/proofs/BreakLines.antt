-- The parts of a line that sets a breakpoint, from its beginning.
use Rattle.std.proofs.Common.{◌≡◌, ◌≢◌, ℕ, zero, suc, ◌+◌, ◌-◌, ◌<◌, ◌≤◌, Bool, true, false, cond, eqb, List, [], ◌∷◌, length, get_or, take}
use Rattle.std.proofs.Common.{drop, Option, Some, None, refl, sym, ap, ◌∙◌, arith}
use Rattle.std.specs.Prelude.{nat_le}
use Rattle.std.proofs.lemmas.Bool.{eqb-true}
use Rattle.std.proofs.lemmas.Bool.Decides.{nat_tests}
use Rattle.std.proofs.lemmas.List.{length-take, length-drop}
use Rattle.std.proofs.lemmas.List.Sums.{prefix_len-le-length}
use Rattle.dbg_base.specs.CommandLines.{Part, is_blank, without_blanks, word_prefix, next_word, after_word, closed_prefix, predicate_prefix}
use Rattle.dbg_base.specs.CommandLines.{is_apart, name_word, with_part, part_then, part_at, parts_within, parts_in}
use Rattle.shell_parse.proofs.FirstWords.{is_inner, word_length_is, word_taken}

-- the first list is a prefix of the second
abbrev IsPrefix : List ℕ → List ℕ → Type 0
IsPrefix prefix bytes = take (length prefix) bytes ≡ prefix

one_longer : (b : ℕ) (prefix bytes : List ℕ) → IsPrefix prefix bytes → IsPrefix (b ∷ prefix) (b ∷ bytes)
one_longer b prefix bytes h = ap (λ (rest : List ℕ). b ∷ rest) h

prefix_of_two : (t : Bool) (x y bytes : List ℕ) → IsPrefix x bytes → IsPrefix y bytes → IsPrefix (cond t x y) bytes
prefix_of_two true x y bytes h g = h
prefix_of_two false x y bytes h g = g

closed_taken : (depth : ℕ) (bytes : List ℕ) → IsPrefix (closed_prefix depth bytes) bytes
closed_taken depth [] = refl
closed_taken depth (b ∷ bytes) =
    prefix_of_two (eqb b 40) (b ∷ closed_prefix (depth + 1) bytes) _ (b ∷ bytes)
    (one_longer b (closed_prefix (depth + 1) bytes) bytes (closed_taken (depth + 1) bytes))
    (prefix_of_two (eqb b 41) (cond (nat_le depth 1) (b ∷ []) (b ∷ closed_prefix (depth - 1) bytes)) (b ∷ closed_prefix depth bytes)
    (b ∷ bytes)
    (prefix_of_two (nat_le depth 1) (b ∷ []) (b ∷ closed_prefix (depth - 1) bytes) (b ∷ bytes) refl
    (one_longer b (closed_prefix (depth - 1) bytes) bytes (closed_taken (depth - 1) bytes)))
    (one_longer b (closed_prefix depth bytes) bytes (closed_taken depth bytes)))

-- the text of a predicate is a prefix
pub predicate_taken : (bytes : List ℕ) → IsPrefix (predicate_prefix bytes) bytes
predicate_taken [] = refl
predicate_taken (b ∷ bytes) =
    prefix_of_two (eqb b 40) (closed_prefix 0 (b ∷ bytes)) (word_prefix (b ∷ bytes)) (b ∷ bytes) (closed_taken 0 (b ∷ bytes))
    (word_taken (b ∷ bytes))

pub predicate_within : (bytes : List ℕ) → length (predicate_prefix bytes) ≤ length bytes
predicate_within bytes =
    let same : length (take (length (predicate_prefix bytes)) bytes) ≡ length (predicate_prefix bytes) = ap length (predicate_taken bytes) in
    let least = length-take (length (predicate_prefix bytes)) bytes in
    omega (arith, same, least)

other_test : (t : Bool) (b : ℕ) → eqb b 40 ≡ t → b ≢ 40 → eqb b 40 ≡ false
other_test true b e other = absurd (other (eqb-true b 40 e))
other_test false b e other = e

-- a text that does not begin with a parenthesis is a word
pub predicate_is_word : (bytes : List ℕ) → (0 < length bytes → get_or bytes 0 0 ≢ 40) → predicate_prefix bytes ≡ word_prefix bytes
predicate_is_word [] other = refl
predicate_is_word (b ∷ bytes) other =
    ap (λ (t : Bool). cond t (closed_prefix 0 (b ∷ bytes)) (word_prefix (b ∷ bytes)))
    (other_test (eqb b 40) b refl (other (omega arith)))

shorter_by : (b : ℕ) (bytes : List ℕ) (t : Bool) → is_blank b ≡ t → length (without_blanks bytes) ≤ length bytes
    → length (without_blanks (b ∷ bytes)) ≤ suc (length bytes)
shorter_by b bytes true e h = rw e (omega (arith, h))
shorter_by b bytes false e h = rw e (omega arith)

shorter : (bytes : List ℕ) → length (without_blanks bytes) ≤ length bytes
shorter [] = omega arith
shorter (b ∷ bytes) = shorter_by b bytes (is_blank b) refl (shorter bytes)

-- the bytes after a word are shorter than the bytes that begin with it
after_shorter : (bytes : List ℕ) → 0 < length (next_word bytes) → length (after_word bytes) < length bytes
after_shorter bytes some =
    let within = prefix_len-le-length is_inner (without_blanks bytes) in
    let after = length-drop (length (next_word bytes)) (without_blanks bytes) in
    omega (arith, some, shorter bytes, word_length_is (without_blanks bytes), within, after)

-- and so are the bytes after more of them
rest_shorter : (bytes : List ℕ) (n : ℕ) → 0 < length (next_word bytes) → length (drop n (without_blanks (after_word bytes))) < length bytes
rest_shorter bytes n some =
    omega (arith, after_shorter bytes some, shorter (after_word bytes), length-drop n (without_blanks (after_word bytes)))

same_after : (t : Bool) (x y z : Option (List Part)) → (t ≡ false → y ≡ z) → cond t x y ≡ cond t x z
same_after true x y z h = refl
same_after false x y z h = h refl

part_then_same : (name : Option (List ℕ)) (text rest : List ℕ) (f g : List ℕ → Option (List Part)) → f rest ≡ g rest
    → part_then name text rest f ≡ part_then name text rest g
part_then_same None text rest f g e = refl
part_then_same (Some name) [] rest f g e = refl
part_then_same (Some name) (b ∷ text) rest f g e =
    ap (λ (parts : Option (List Part)). cond (is_apart rest) (with_part (name, b ∷ text) parts) None) e

is_some_word : (n : ℕ) → nat_le n 0 ≡ false → 0 < n
is_some_word n e = grind (arith, nat_tests)

-- a bound above the number of bytes is no restriction
parts_more : (n m : ℕ) (bytes : List ℕ) → length bytes < n → length bytes < m → parts_within n bytes ≡ parts_within m bytes
parts_more zero m bytes low high = absurd (omega arith)
parts_more (suc n) zero bytes low high = absurd (omega arith)
parts_more (suc n) (suc m) bytes low high =
    let begun = without_blanks (after_word bytes) in
    let prefix = predicate_prefix begun in
    let rest = drop (length prefix) begun in
    same_after (nat_le (length (next_word bytes)) 0) (Some []) _ _ (λ e.
    let less : length rest < length bytes = rest_shorter bytes (length prefix) (is_some_word (length (next_word bytes)) e) in
    part_then_same (name_word (next_word bytes)) prefix rest (parts_within n) (parts_within m)
    (parts_more n m rest (omega (arith, less)) (omega (arith, less))))

-- there is a word
goes_on : (n : ℕ) (x y : Option (List Part)) → 0 < n → cond (nat_le n 0) x y ≡ y
goes_on zero x y some = absurd (omega arith)
goes_on (suc n) x y some =
    let e : nat_le (suc n) 0 ≡ false = grind (arith, nat_tests) in
    ap (λ (t : Bool). cond t x y) e

has_text : (name text rest : List ℕ) (next : List ℕ → Option (List Part)) → 0 < length text → is_apart rest ≡ true
    → part_then (Some name) text rest next ≡ with_part (name, text) (next rest)
has_text name [] rest next some apart = absurd (omega arith)
has_text name (b ∷ text) rest next some apart =
    ap (λ (t : Bool). cond t (with_part (name, b ∷ text) (next rest)) None) apart

-- a well-formed part, with its name, its text, and the bytes after it
pub has_part : (bytes name text rest : List ℕ) → 0 < length (next_word bytes) → name_word (next_word bytes) ≡ Some name
    → text ≡ predicate_prefix (without_blanks (after_word bytes))
    → rest ≡ drop (length (predicate_prefix (without_blanks (after_word bytes)))) (without_blanks (after_word bytes))
    → 0 < length text → is_apart rest ≡ true
    → (length rest < length bytes) × (parts_in bytes ≡ with_part (name, text) (parts_in rest))
has_part bytes name text rest word named text_is rest_is some apart =
    let begun = without_blanks (after_word bytes) in
    let prefix = predicate_prefix begun in
    let after = drop (length prefix) begun in
    let less : length after < length bytes = rest_shorter bytes (length prefix) word in
    let next = parts_within (length bytes) in (
      omega (arith, less, ap length rest_is),
      goes_on (length (next_word bytes)) (Some []) (part_at (name_word (next_word bytes)) begun next) word
          ∙ ap (λ (found : Option (List ℕ)). part_then found prefix after next) named
          ∙ ap (λ (t : List ℕ). part_then (Some name) t after next) (sym text_is)
          ∙ ap (λ (r : List ℕ). part_then (Some name) text r next) (sym rest_is)
          ∙ has_text name text rest next some apart
          ∙ ap (with_part (name, text))
          (parts_more (length bytes) (suc (length rest)) rest (omega (arith, less, ap length rest_is)) (omega arith)),
    )
