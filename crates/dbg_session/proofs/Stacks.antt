-- The last element of a list.
use Rattle.std.proofs.Common.{◌≡◌, ℕ, suc, ◌-◌, ◌<◌, List, [], ◌∷◌, ◌++◌, length, get_or, set, take, Some, sym, ap, ◌∙◌, arith}
use Rattle.std.specs.Prelude.{slice_get}
use Rattle.std.proofs.lemmas.List.{set-get_or, set_split, drop_all}
use Rattle.std.proofs.lemmas.Option.{slice_get-get_or}

-- a list of n elements that ends with this one
pub record EndsWith {X : Type 0} (xs : List X) (n : ℕ) (last : X) : Type 0 where
  pub long : n ≡ length xs
  pub some : 0 < n
  pub is : last ≡ get_or xs (n - 1) last

module _ {X : Type 0} (xs : List X) (n : ℕ) (last : X) (ends : EndsWith xs n last) where
  -- setting the last element to itself changes nothing
  pub last_written : set xs (n - 1) last ≡ xs
  last_written = ap (λ (x : X). set xs (n - 1) x) ends.is ∙ set-get_or xs (n - 1) last

  -- the list is the elements before the last one, and the last one
  pub last_split : take (n - 1) xs ++ last ∷ [] ≡ xs
  last_split =
      let long : n ≡ length xs = ends.long in
      let some : 0 < n = ends.some in
      ap (λ (rest : List X). take (n - 1) xs ++ last ∷ rest) (sym (drop_all (suc (n - 1)) xs (omega arith)))
      ∙ sym (set_split xs (n - 1) last (omega arith)) ∙ last_written

  pub last_found : slice_get xs (n - 1) ≡ Some last
  last_found =
      let long : n ≡ length xs = ends.long in
      let some : 0 < n = ends.some in
      slice_get-get_or xs (n - 1) last (omega arith) ∙ ap Some (sym ends.is)
