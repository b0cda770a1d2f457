-- A text with plain names, byte after byte.
use Rattle.std.proofs.Common.{◌≡◌, ◌<◌, ◌+◌, ℕ, suc, List, [], ◌∷◌, ◌++◌, length, drop, get_or, sym, ap, ◌∙◌, append_assoc, add-one, arith}
use Rattle.ui_session.specs.Named.{plain_byte, plain_text}

plain_at : (xs : List ℕ) (i none x : ℕ) → i < length xs → x ≡ get_or xs i none
    → plain_text (drop i xs) ≡ plain_byte x ++ plain_text (drop (suc i) xs)
plain_at [] i none x lt is = absurd (omega (arith, lt))
plain_at (y ∷ xs) ℕ.zero none x lt is = ap (λ (z : ℕ). plain_byte z ++ plain_text xs) (sym is)
plain_at (y ∷ xs) (suc i) none x lt is = plain_at xs i none x (omega (arith, lt)) is

-- one more byte
pub plain_step : (text old new whole : List ℕ) (i none x : ℕ) → old ++ plain_text (drop i text) ≡ whole → new ≡ old ++ plain_byte x
    → i < length text → x ≡ get_or text i none → new ++ plain_text (drop (i + 1) text) ≡ whole
plain_step text old new whole i none x so_far is lt at =
    rw add-one (ap (λ (t : List ℕ). t ++ plain_text (drop (suc i) text)) is
    ∙ append_assoc old (plain_byte x) (plain_text (drop (suc i) text))
    ∙ ap (λ (t : List ℕ). old ++ t) (sym (plain_at text i none x lt at)) ∙ so_far)
