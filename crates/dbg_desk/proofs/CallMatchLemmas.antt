-- A list compared, element by element, with what is picked of another list.
use Rattle.std.proofs.Common.{◌≡◌, ℕ, suc, ◌+◌, ◌<◌, ◌≤◌, List, [], ◌∷◌, ◌++◌, length, take, drop, get_or, Some, sym, ap, ◌∙◌, arith}
use Rattle.std.proofs.Common.{append_assoc, append-nil, take_all}
use Rattle.std.specs.List.{flat_map}
use Rattle.std.specs.Prelude.{slice_get}
use Rattle.std.proofs.lemmas.Option.{slice_get_within, get_or_from_slice_get, slice_get-get_or}
use Rattle.std.proofs.lemmas.List.{take_more, length-take-le, length-append, take-append-drop}
use Rattle.std.proofs.Math.Seq.{get_or-append_seam}
use Rattle.std.proofs.lemmas.Grind.{flat_map-append}

module _ {A B : Type 0} (f : A → List B) (all : List A) (own : List B) where
  -- the first so many of them are what is picked of the first so many
  pub record IsMatched (i found : ℕ) : Type 0 where
    pub few : found ≤ length own
    pub same : take found own ≡ flat_map f (take i all)

  -- nothing is picked of the next one
  pub matched_on : (i found : ℕ) (x : A) → i < length all → x ≡ get_or all i x → f x ≡ [] → IsMatched i found → IsMatched (i + 1) found
  matched_on i found x within is none m = record {
    few = m.few;
    same = m.same ∙ sym (append-nil (flat_map f (take i all)))
        ∙ ap (λ (l : List B). flat_map f (take i all) ++ l) (sym (append-nil []) ∙ sym none_too)
        ∙ sym (flat_map-append f (take i all) (x ∷ []))
        ∙ ap (λ (y : A). flat_map f (take i all ++ y ∷ [])) is
        ∙ ap (λ (l : List A). flat_map f l) (sym (take_more all i x within));
  }
    where
      none_too : flat_map f (x ∷ []) ≡ []
      none_too = ap (λ (l : List B). l ++ []) none

  picked : (x : A) (y : B) → f x ≡ y ∷ [] → flat_map f (x ∷ []) ≡ y ∷ []
  picked x y one = ap (λ (l : List B). l ++ []) one

  next : (i : ℕ) (x : A) (y : B) → i < length all → x ≡ get_or all i x → f x ≡ y ∷ []
      → flat_map f (take (i + 1) all) ≡ flat_map f (take i all) ++ y ∷ []
  next i x y within is one =
      ap (λ (l : List A). flat_map f l) (take_more all i x within)
      ∙ ap (λ (z : A). flat_map f (take i all ++ z ∷ [])) (sym is)
      ∙ flat_map-append f (take i all) (x ∷ [])
      ∙ ap (λ (l : List B). flat_map f (take i all) ++ l) (picked x y one)

  -- the next one is what is picked of it
  pub matched_more : (i found : ℕ) (x : A) (y : B) → i < length all → x ≡ get_or all i x → f x ≡ y ∷ []
      → slice_get own found ≡ Some y → IsMatched i found → IsMatched (i + 1) (found + 1)
  matched_more i found x y within is one at m =
      let here = slice_get_within own found y at in
      let same = get_or_from_slice_get own found y y at in
      record {
        few = omega (arith, here);
        same = take_more own found y here ∙ ap (λ (z : B). take found own ++ z ∷ []) same
            ∙ ap (λ (l : List B). l ++ y ∷ []) m.same ∙ sym (next i x y within is one);
      }

  -- all is picked: what is picked of the first so many is a prefix of it
  prefix : (i : ℕ) → flat_map f all ≡ flat_map f (take i all) ++ flat_map f (drop i all)
  prefix i = ap (λ (l : List A). flat_map f l) (sym (take-append-drop i all)) ∙ flat_map-append f (take i all) (drop i all)

  -- the next one is not what is picked of it
  pub unmatched : (i found : ℕ) (x : A) (y : B) → i < length all → x ≡ get_or all i x → f x ≡ y ∷ []
      → (slice_get own found ≡ Some y → ⊥) → IsMatched i found → own ≡ flat_map f all → ⊥
  unmatched i found x y within is one other m whole =
      other (slice_get-get_or own found y long ∙ ap (λ (z : B). Some z) at)
    where
      pre : List B
      pre = take found own

      size : length pre ≡ found
      size = length-take-le found own m.few

      rest : List B
      rest = flat_map f (drop (i + 1) all)

      split : own ≡ pre ++ y ∷ rest
      split =
          whole ∙ prefix (i + 1)
          ∙ ap (λ (l : List B). l ++ rest) (next i x y within is one ∙ ap (λ (l : List B). l ++ y ∷ []) (sym m.same))
          ∙ append_assoc pre (y ∷ []) rest

      long : found < length own
      long =
          let whole_size : length own ≡ length pre + suc (length rest) = ap (λ (l : List B). length l) split ∙ length-append pre (y ∷ rest) in
          omega (arith, whole_size, size)

      at : get_or own found y ≡ y
      at =
          ap (λ (l : List B). get_or l found y) split ∙ ap (λ (n : ℕ). get_or (pre ++ y ∷ rest) n y) (sym size)
          ∙ get_or-append_seam pre y rest y

  -- they are all that is picked, if there are so many of them
  pub matched_all : (found : ℕ) → IsMatched (length all) found → found ≡ length own → own ≡ flat_map f all
  matched_all found m many =
      sym (take_all found own (omega (arith, many))) ∙ m.same ∙ ap (λ (l : List A). flat_map f l) (take_all (length all) all (omega arith))

  pub all_matched : (found : ℕ) → IsMatched (length all) found → own ≡ flat_map f all → found ≡ length own
  all_matched found m whole =
      let picked_all : take found own ≡ own =
      m.same ∙ ap (λ (l : List A). flat_map f l) (take_all (length all) all (omega arith)) ∙ sym whole in
      let size : length (take found own) ≡ found = length-take-le found own m.few in
      sym size ∙ ap (λ (l : List B). length l) picked_all
