-- A loop over the elements of a list that ends when a test fails.
use Rattle.std.proofs.Common.{◌≡◌, ℕ, ◌+◌, ◌≤◌, Bool, true, false, ◌&&◌, ◌||◌, cond, List, [], ◌∷◌, ◌++◌, length, take, drop}
use Rattle.std.proofs.Common.{refl, arith, zero-le, one-add}
use Rattle.std.specs.List.{prefix_len, list_all}

-- each byte so far has passed; the rest of the run is within the rest of the bytes
abbrev pub PassedSoFar : (ℕ → Bool) → List ℕ → ℕ → Type 0
PassedSoFar p bytes i = prefix_len p bytes ≡ i + prefix_len p (drop i bytes)

pub and_first : (a b : Bool) → (a && b) ≡ true → a ≡ true
and_first true b h = refl
and_first false b h = h

pub and_second : (a b : Bool) → (a && b) ≡ true → b ≡ true
and_second true b h = h
and_second false b h = cc

pub both_true : (a b : Bool) → a ≡ true → b ≡ true → (a && b) ≡ true
both_true true b h g = g
both_true false b h g = cc

pub or_first : (a b : Bool) → a ≡ true → (a || b) ≡ true
or_first true b h = refl
or_first false b h = cc

module _ (p : ℕ → Bool) where
  abbrev passes_by : ℕ → List ℕ → Bool → Type 0
  passes_by b bytes t = list_all p (take (cond t (1 + prefix_len p bytes) 0) (b ∷ bytes)) ≡ true

  prefix_step : (b : ℕ) (bytes : List ℕ) (t : Bool) → p b ≡ t → list_all p (take (prefix_len p bytes) bytes) ≡ true → passes_by b bytes t
  prefix_step b bytes true e h = rw one-add (both_true (p b) (list_all p (take (prefix_len p bytes) bytes)) e h)
  prefix_step b bytes false e h = refl

  -- the longest passing prefix passes
  pub prefix_passes : (bytes : List ℕ) → list_all p (take (prefix_len p bytes) bytes) ≡ true
  prefix_passes [] = refl
  prefix_passes (b ∷ bytes) = prefix_step b bytes (p b) refl (prefix_passes bytes)

  -- no longer prefix passes
  pub prefix_is_longest : (piece more : List ℕ) → list_all p piece ≡ true → length piece ≤ prefix_len p (piece ++ more)
  prefix_is_longest [] more h = zero-le
  prefix_is_longest (b ∷ piece) more h =
      let rest = prefix_is_longest piece more (and_second (p b) (list_all p piece) h) in
      rw (and_first (p b) (list_all p piece) h) (omega (arith, rest))
