-- How many of the first elements pass a test.
use Rattle.std.proofs.Common.{◌≡◌, inl, inr, ℕ, zero, suc, ◌+◌, ◌-◌, ◌<◌, ◌≤◌, Bool, true, cond, List, [], ◌∷◌, length, get_or, take}
use Rattle.std.proofs.Common.{Option, Some, None, MatchOption, refl, sym, ap, ◌∙◌, arith}
use Rattle.std.specs.List.{count_by}
use Rattle.std.proofs.lemmas.Bool.{cases_lt, cases_Bool}
use Rattle.std.proofs.lemmas.List.{length-take}
use Rattle.std.proofs.lemmas.List.Sums.{count_by_more_yes, count_by-le-length, sum_by-cons}
use Rattle.dbg_base.proofs.CountLemmas.{count_grows}

module _ {X : Type 0} (p : X → Bool) where
  -- at most n
  pub count_within : (xs : List X) (n : ℕ) → count_by p (take n xs) ≤ n
  count_within xs n =
      let a : count_by p (take n xs) ≤ length (take n xs) = count_by-le-length p (take n xs) in
      omega (arith, length-take n xs)

  -- none of an empty list
  pub count_none : (n : ℕ) → count_by p (take n []) ≡ 0
  count_none zero = refl
  count_none (suc n) = refl

  -- fewer elements pass only if there are fewer
  pub count_below : (xs : List X) (m n : ℕ) → count_by p (take m xs) < count_by p (take n xs) → m < n
  count_below xs m n less = elim (cases_lt m n) [
    | inl lt ↦ lt
    | inr le ↦ let grows : count_by p (take n xs) ≤ count_by p (take m xs) = count_grows p xs n m le in absurd (omega arith)
  ]

  -- if the last element passes, the count is one more than before it
  pub count_before : (xs : List X) (n : ℕ) (d : X) → 1 ≤ n → n ≤ length xs → p (get_or xs (n - 1) d) ≡ true
      → count_by p (take n xs) ≡ count_by p (take (n - 1) xs) + 1
  count_before xs n d first within like =
      let same : n - 1 + 1 ≡ n = omega arith in
      ap (λ k. count_by p (take k xs)) (sym same) ∙ count_by_more_yes p xs (n - 1) d (omega arith) like

-- at most as many elements pass a test as pass one that it implies
pub count_implied : {X : Type 0} (p q : X → Bool) → ((x : X) → p x ≡ true → q x ≡ true) → (xs : List X) → count_by p xs ≤ count_by q xs
count_implied p q implies [] = omega arith
count_implied p q implies (x ∷ xs) =
    let rest : count_by p xs ≤ count_by q xs = count_implied p q implies xs in
    let counted_p : count_by p (x ∷ xs) ≡ cond (p x) 1 0 + count_by p xs = sum_by-cons (λ y. cond (p y) 1 0) x xs in
    let counted_q : count_by q (x ∷ xs) ≡ cond (q x) 1 0 + count_by q xs = sum_by-cons (λ y. cond (q y) 1 0) x xs in
    let head : cond {A = ℕ} (p x) 1 0 ≤ cond {A = ℕ} (q x) 1 0 = elim (cases_Bool (p x)) [
      | inl passes ↦
          let one_p : cond {A = ℕ} (p x) 1 0 ≡ 1 = ap (λ (b : Bool). cond {A = ℕ} b 1 0) passes in
          let one_q : cond {A = ℕ} (q x) 1 0 ≡ 1 = ap (λ (b : Bool). cond {A = ℕ} b 1 0) (implies x passes) in
          omega arith
      | inr fails ↦ let none_p : cond {A = ℕ} (p x) 1 0 ≡ 0 = ap (λ (b : Bool). cond {A = ℕ} b 1 0) fails in omega arith
    ] in
    omega arith

-- weaker properties of the result of a search
pub answer_weaker : {A : Type 0} (P P' : Type 0) (Q Q' : A → Type 0) (r : Option A) → (P → P') → ((x : A) → Q x → Q' x)
    → MatchOption r P Q → MatchOption r P' Q'
answer_weaker P P' Q Q' None f g h = f h
answer_weaker P P' Q Q' (Some x) f g h = g x h
