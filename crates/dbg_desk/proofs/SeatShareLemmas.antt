-- The elements that several numbers pick of a list, if each element has exactly one of these numbers.
use Rattle.std.proofs.Common.{◌≡◌, ℕ, ◌+◌, Bool, true, false, List, [], ◌∷◌, ◌++◌, length, refl, sym, arith}
use Rattle.std.specs.Prelude.{◌==◌, if◌then◌else◌}
use Rattle.std.specs.List.{AllByRecursion, flat_map, sum_by}
use Rattle.std.proofs.lemmas.List.{length-append}
use Rattle.std.proofs.lemmas.List.Sums.{sum_by-cons}

module _ {A B S : Type 0} (number_in : A → ℕ) (made : A → B) (number_of : S → ℕ) where
  abbrev pub pick : ℕ → A → List B
  pick number x = if number_in x == number then made x ∷ [] else []

  abbrev pub one_if : ℕ → S → ℕ
  one_if number s = if number == number_of s then 1 else 0

  size : (x : A) (s : S) → length (pick (number_of s) x) ≡ one_if (number_in x) s
  size x s = by (number_in x == number_of s)
    where
      by : (t : Bool) → length (if t then made x ∷ [] else []) ≡ (if t then 1 else 0)
      by true = refl
      by false = refl

  -- by these numbers together
  abbrev pub together : List A → List S → ℕ
  together all parts = sum_by (λ s. length (flat_map (pick (number_of s)) all)) parts

  nothing : (parts : List S) → together [] parts ≡ 0
  nothing [] = refl
  nothing (s ∷ parts) =
      let one : together [] (s ∷ parts) ≡ 0 + together [] parts = sum_by-cons (λ (t : S). length (flat_map (pick (number_of t)) [])) s parts in
      let others = nothing parts in
      omega (arith, one, others)

  first : (x : A) (all : List A) (parts : List S) → together (x ∷ all) parts ≡ sum_by (one_if (number_in x)) parts + together all parts
  first x all [] = refl
  first x all (s ∷ parts) =
      let one = length-append (pick (number_of s) x) (flat_map (pick (number_of s)) all) in
      let is = size x s in
      let others = first x all parts in
      let whole : together (x ∷ all) (s ∷ parts)
      ≡ length (pick (number_of s) x ++ flat_map (pick (number_of s)) all) + together (x ∷ all) parts =
      sum_by-cons (λ (t : S). length (flat_map (pick (number_of t)) (x ∷ all))) s parts in
      let ones : sum_by (one_if (number_in x)) (s ∷ parts) ≡ one_if (number_in x) s + sum_by (one_if (number_in x)) parts =
      sum_by-cons (one_if (number_in x)) s parts in
      let rest : together all (s ∷ parts) ≡ length (flat_map (pick (number_of s)) all) + together all parts =
      sum_by-cons (λ (t : S). length (flat_map (pick (number_of t)) all)) s parts in
      omega (arith, one, is, others, whole, ones, rest)

  pub shared : (all : List A) (parts : List S) → AllByRecursion (λ x. sum_by (one_if (number_in x)) parts ≡ 1) all
      → length all ≡ together all parts
  shared [] parts once = sym (nothing parts)
  shared (x ∷ all) parts once =
      let here = first x all parts in
      let others = shared all parts once.1 in
      let one = once.0 in
      omega (arith, here, others, one)
