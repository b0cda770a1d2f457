-- One position of a list, as a function f sees its element: what a change of the element makes, and what it keeps.
use Rattle.std.proofs.Common.{◌≡◌, ℕ, zero, suc, ◌<◌, ◌≤◌, List, [], ◌∷◌, length, get_or, set, map, sym, ap, ◌∙◌, arith}
use Rattle.std.proofs.lemmas.List.{length-map, length-set, map-set, get_or-map, get_or-set_same, set-get_or}

module _ {A B : Type 0} (f : A → B) (xs : List A) (i : ℕ) (x : A) (here : get_or xs i x ≡ x) (lt : i < length xs) where
  -- what f sees at the position
  pub seen_at : (d : B) → get_or (map f xs) i d ≡ f x
  seen_at d = get_or-map f xs i x d lt ∙ ap f here

  -- the list with an element that f sees changed
  pub changed_at : (y : A) (d : B) (change : B → B) → f y ≡ change (f x)
      → map f (set xs i y) ≡ set (map f xs) i (change (get_or (map f xs) i d))
  changed_at y d change e = map-set f xs i y ∙ ap (set (map f xs) i) (e ∙ ap change (sym (seen_at d)))

-- the list with an element that f sees unchanged
pub kept_at : {A B : Type 0} (f : A → B) (xs : List A) (i : ℕ) (y : A) → get_or (map f xs) i (f y) ≡ f y → map f (set xs i y) ≡ map f xs
kept_at f xs i y same = map-set f xs i y ∙ ap (set (map f xs) i) (sym same) ∙ set-get_or (map f xs) i (f y)

-- the list with an element of which f sees at least as much
pub grown_at : {A : Type 0} (f : A → ℕ) (xs : List A) (i : ℕ) (y : A) (k : ℕ) → get_or (map f xs) i 0 ≤ f y
    → get_or (map f xs) k 0 ≤ get_or (map f (set xs i y)) k 0
grown_at f [] i y k more = omega arith
grown_at f (x ∷ xs) zero y zero more = more
grown_at f (x ∷ xs) zero y (suc k) more = omega arith
grown_at f (x ∷ xs) (suc i) y zero more = omega arith
grown_at f (x ∷ xs) (suc i) y (suc k) more = grown_at f xs i y k more

-- a position at which f sees more than 0 exists
pub there_at : {A : Type 0} (f : A → ℕ) (xs : List A) (i : ℕ) → 0 < get_or (map f xs) i 0 → i < length xs
there_at f [] i h = absurd (omega arith)
there_at f (x ∷ xs) zero h = omega arith
there_at f (x ∷ xs) (suc i) h = let t : i < length xs = there_at f xs i h in omega arith

-- The lemmas with which `grind` proves what a call makes of all that f sees, if the call changes one position, as `reserve`, `push` and
-- `pop` do.
pub ruleset one_place = (map-set, get_or-map, length-map, length-set, get_or-set_same, kept_at, grown_at, there_at)
