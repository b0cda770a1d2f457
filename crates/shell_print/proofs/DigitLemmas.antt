-- Numbers that are appended digit by digit.
use Rattle.std.proofs.Common.{◌≡◌, ℕ, List, [], ◌∷◌, ◌++◌, ◌+◌, ◌/◌, ◌%◌, ◌^◌, ◌<◌, ◌≤◌, sym, ap, ◌∙◌, append_assoc, arith}
use Rattle.std.proofs.lemmas.Fmt.{decimal_digit, decimal_step}
use Rattle.std.specs.Fmt.{decimal}

-- the last digit follows the others
pub last_digit : (old : List ℕ) (n : ℕ) → 10 ≤ n → n < 2 ^ 64 → (old ++ decimal (n / 10)) ++ (48 + n % 10) ∷ [] ≡ old ++ decimal n
last_digit old n low high =
    append_assoc old (decimal (n / 10)) ((48 + n % 10) ∷ []) ∙ ap (λ (t : List ℕ). old ++ t) (sym (decimal_step n low high))

pub two_digits : (old : List ℕ) (n : ℕ) → 10 ≤ n → n < 100 → (old ++ (48 + n / 10) ∷ []) ++ (48 + n % 10) ∷ [] ≡ old ++ decimal n
two_digits old n low high =
    ap (λ (t : List ℕ). (old ++ t) ++ (48 + n % 10) ∷ []) (sym (decimal_digit (n / 10) (omega arith))) ∙ last_digit old n low (omega arith)
