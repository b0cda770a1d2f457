-- Lists that are made item by item, and lists that were borrowed.
use Rattle.std.proofs.Common.{◌≡◌, ℕ, zero, suc, ◌<◌, Bool, true, false, List, [], ◌∷◌, ◌++◌, length, get_or, take, drop, refl, sym, ap, ◌∙◌, arith}
use Rattle.std.specs.Prelude.{nat_lt}
use Rattle.std.proofs.lemmas.Bool.Decides.{nat_tests}
use Rattle.std.proofs.lemmas.List.{get_or_append_left, length_push}
use Rattle.std.proofs.Math.Seq.{get_or-append_seam, take-append_seam}

-- a list that gets one more item each time
module _ {A : Type 0} (item : ℕ → A) (made : ℕ → List A) (none : made 0 ≡ []) (more : (n : ℕ) → made (suc n) ≡ made n ++ item n ∷ []) where
  pub so_many : (n : ℕ) → length (made n) ≡ n
  so_many zero = ap length none
  so_many (suc n) =
      let before = so_many n in
      let here : length (made (suc n)) ≡ length (made n ++ item n ∷ []) = ap length (more n) in
      let longer = length_push (made n) (item n) in
      omega (arith, before, here, longer)

  pub made_at : (n i : ℕ) (other : A) → i < n → get_or (made n) i other ≡ item i
  made_at zero i other within = absurd (omega (arith, within))
  made_at (suc n) i other within =
      ap (λ (xs : List A). get_or xs i other) (more n) ∙ by_place (nat_lt i n) refl (made_at n i other)
    where
      by_place : (t : Bool) → nat_lt i n ≡ t → (i < n → get_or (made n) i other ≡ item i) → get_or (made n ++ item n ∷ []) i other ≡ item i
      by_place true before earlier =
          let size = so_many n in
          let lt : i < n = grind (arith, nat_tests) in
          let within : i < length (made n) = omega (arith, size, lt) in
          get_or_append_left (made n) (item n ∷ []) other i within ∙ earlier lt
      by_place false last earlier =
          let size = so_many n in
          let here : i ≡ n = grind (arith, nat_tests) in
          let at : i ≡ length (made n) = here ∙ sym size in
          ap (λ (k : ℕ). get_or (made n ++ item n ∷ []) k other) at ∙ get_or-append_seam (made n) (item n) [] other ∙ ap item (sym here)

-- the list after a borrow of a part of it
pub lent_back : {A : Type 0} (n : ℕ) (old new : List A) → n ≡ length old → length new ≡ length old
    → take n (new ++ drop (length new) old) ≡ new
lent_back n old new long same =
    ap (λ (k : ℕ). take k (new ++ drop (length new) old)) (long ∙ sym same) ∙ take-append_seam new (drop (length new) old)
