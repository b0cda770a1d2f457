-- The bytes of a reader whose last line is ended.
use Rattle.std.proofs.Common.{◌≡◌, ◌==◌, ℕ, zero, suc, ◌-◌, ◌<◌, ◌≤◌, List, [], ◌∷◌, ◌++◌, length, take, refl, sym, subst, ◌∙◌, ap, append_assoc, arith}
use Rattle.std.proofs.Common.{slice_index_or, slice_set, Option, Some, None, if◌then◌else◌, false}
use Rattle.std.specs.Io.KnownBytes.{Consumes, IsAtEnd}
use Rattle.std.specs.Option.{option_map}
use Rattle.shell_io.specs.Lines.{last_byte, closed_after}

last_append : (last : ℕ) (xs ys : List ℕ) → last_byte last (xs ++ ys) ≡ last_byte (last_byte last xs) ys
last_append last [] ys = refl
last_append last (x ∷ xs) ys = last_append x xs ys

last_taken : (last n : ℕ) (bytes : List ℕ) → suc n ≤ length bytes → last_byte last (take (suc n) bytes) ≡ slice_index_or bytes n 0
last_taken last n [] few = absurd (omega (arith, few))
last_taken last zero (b ∷ bytes) few = refl
last_taken last (suc n) (b ∷ bytes) few = last_taken b n bytes (omega (arith, few))

closed_append : (last : ℕ) (xs ys : List ℕ) → closed_after last (xs ++ ys) ≡ xs ++ closed_after (last_byte last xs) ys
closed_append last xs ys =
    ap (λ l. (xs ++ ys) ++ (if l == 10 then [] else 10 ∷ [])) (last_append last xs ys)
    ∙ append_assoc xs ys (if last_byte (last_byte last xs) ys == 10 then [] else 10 ∷ [])

-- some bytes were read, and the last of them is kept
pub lines_go_on : (old new : Option (List ℕ)) (last n : ℕ) (bytes : List ℕ) → suc n ≤ length bytes
    → Consumes old new (take (suc n) bytes)
    → Consumes (option_map (closed_after last) old) (option_map (closed_after (slice_index_or bytes n 0)) new) (take (suc n) bytes)
lines_go_on None new last n bytes few h = tt
lines_go_on (Some xs) None last n bytes few h = absurd h
lines_go_on (Some xs) (Some ys) last n bytes few h =
    ap (closed_after last) h ∙ closed_append last (take (suc n) bytes) ys
    ∙ ap (λ l. take (suc n) bytes ++ closed_after l ys) (last_taken last n bytes few)

-- the end is reached, and the last line is ended there
lines_end : (old new : Option (List ℕ)) (last : ℕ) (bytes : List ℕ) → 0 < length bytes → (last == 10) ≡ false
    → Consumes old new [] → IsAtEnd new
    → Consumes (option_map (closed_after last) old) (option_map (closed_after 10) new) (take 1 (slice_set bytes 0 10))
lines_end old new last [] some unended h end = absurd (omega (arith, some))
lines_end None new last (b ∷ bytes) some unended h end = tt
lines_end (Some xs) None last (b ∷ bytes) some unended h end = absurd h
lines_end (Some xs) (Some ys) last (b ∷ bytes) some unended h end =
    ap (closed_after last) (h ∙ end) ∙ ap (λ is. if is then [] else 10 ∷ []) unended
    ∙ ap (λ t. 10 ∷ closed_after 10 t) (sym end)

-- some bytes were read
pub lines_read : (old new : Option (List ℕ)) (last n : ℕ) (bytes : List ℕ) → 0 < n → n ≤ length bytes → Consumes old new (take n bytes)
    → Consumes (option_map (closed_after last) old) (option_map (closed_after (slice_index_or bytes (n - 1) 0)) new) (take n bytes)
lines_read old new last zero bytes some few h = absurd (omega (arith, some))
lines_read old new last (suc n) bytes some few h =
    let same : n ≡ suc n - 1 = omega arith in
    subst
    (λ (k : ℕ). Consumes (option_map (closed_after last) old) (option_map (closed_after (slice_index_or bytes k 0)) new) (take (suc n) bytes))
    same (lines_go_on old new last n bytes few h)

not_ended : (last : ℕ) → ¬ (last ≡ 10) → (last == 10) ≡ false
not_ended last h = grind (arith, h)

-- no byte was read, and the last line is ended
pub lines_ended : (old new : Option (List ℕ)) (last n : ℕ) (bytes : List ℕ) → 0 < length bytes → ¬ (last ≡ 10) → n ≡ 0
    → Consumes old new (take n bytes) → IsAtEnd new
    → Consumes (option_map (closed_after last) old) (option_map (closed_after 10) new) (take 1 (slice_set bytes 0 10))
lines_ended old new last n bytes some unended none h end =
    lines_end old new last bytes some (not_ended last unended) (subst (λ (k : ℕ). Consumes old new (take k bytes)) none h) end
