-- The initial values, one variable at a time.
use Rattle.std.proofs.Common.{◌≡◌, ℕ, zero, suc, ◌+◌, List, [], ◌∷◌, ◌++◌, take, map, Some, None, refl, ap, add-one}
use Rattle.std.specs.Prelude.{slice_get}
use Rattle.std.specs.Option.{option_map}

take_suc_there : {A B : Type 0} (f : A → B) (xs : List A) (i : ℕ) (y : B) → Some y ≡ option_map f (slice_get xs i)
    → take i (map f xs) ++ y ∷ [] ≡ take (suc i) (map f xs)
take_suc_there f [] i y here = cc
take_suc_there f (x ∷ xs) zero y here = cc
take_suc_there f (x ∷ xs) (suc i) y here = ap (λ rest. f x ∷ rest) (take_suc_there f xs i y here)

take_suc_past : {A B : Type 0} (f : A → B) (xs : List A) (i : ℕ) → None ≡ option_map f (slice_get xs i)
    → take i (map f xs) ≡ take (suc i) (map f xs)
take_suc_past f [] zero here = refl
take_suc_past f [] (suc i) here = refl
take_suc_past f (x ∷ xs) zero here = cc
take_suc_past f (x ∷ xs) (suc i) here = ap (λ rest. f x ∷ rest) (take_suc_past f xs i here)

-- one more value, if there is such a variable
pub take_one_more : {A B : Type 0} (f : A → B) (xs : List A) (i : ℕ) (y : B) → Some y ≡ option_map f (slice_get xs i)
    → take i (map f xs) ++ y ∷ [] ≡ take (i + 1) (map f xs)
take_one_more f xs i y here = rw add-one (take_suc_there f xs i y here)

-- no more values, if there is no such variable
pub take_no_more : {A B : Type 0} (f : A → B) (xs : List A) (i : ℕ) → None ≡ option_map f (slice_get xs i)
    → take i (map f xs) ≡ take (i + 1) (map f xs)
take_no_more f xs i here = rw add-one (take_suc_past f xs i here)
