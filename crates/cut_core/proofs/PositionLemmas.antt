-- The positions of the passing events: their meaning, one more, and one less.
use Rattle.std.proofs.Common.{◌≡◌, inl, inr, ℕ, ◌+◌, ◌-◌, ◌<◌, ◌≤◌, Bool, true, false, cond, List, [], ◌∷◌, ◌++◌, length, get_or, take}
use Rattle.std.proofs.Common.{refl, sym, ap, subst, ◌∙◌, arith}
use Rattle.std.specs.List.{count_by}
use Rattle.std.proofs.lemmas.Bool.{cases_lt}
use Rattle.std.proofs.lemmas.List.{length_push, get_or_push, get_or_append_left, get_or-take, take-append-le, take_at, length-take-le}
use Rattle.std.proofs.lemmas.List.Sums.{count_by_more_yes, sum_by_push, sum_by-take-le}
use Rattle.cut_core.specs.declared.kind.Kind.{Kind}
use Rattle.cut_core.specs.declared.kind.Kind.TheVariants.{Local}
use Rattle.cut_core.specs.Places.{IsPlace, IsPlaces}
use Rattle.dbg_base.proofs.CountLemmas.{count_grows}

module _ (p : Kind → Bool) where
  -- the count with one more event
  count_yes : (kinds : List Kind) (x : Kind) → p x ≡ true → count_by p (kinds ++ x ∷ []) ≡ count_by p kinds + 1
  count_yes kinds x yes_x = sum_by_push (λ y. cond (p y) 1 0) kinds x ∙ ap (λ b. count_by p kinds + cond b 1 0) yes_x

  count_no : (kinds : List Kind) (x : Kind) → p x ≡ false → count_by p (kinds ++ x ∷ []) ≡ count_by p kinds
  count_no kinds x no_x = sum_by_push (λ y. cond (p y) 1 0) kinds x ∙ ap (λ b. count_by p kinds + cond b 1 0) no_x ∙ omega arith

  -- the count up to and including it
  pub place_after : (kinds : List Kind) (k place : ℕ) → IsPlace p kinds k place → count_by p (take (place + 1) kinds) ≡ k + 1
  place_after kinds k place is = count_by_more_yes p kinds place Local is.within (is.passes Local) ∙ ap (λ n. n + 1) is.count

  -- a position stays with one more event, and with one less event after it
  place_more : (kinds : List Kind) (x : Kind) (k place : ℕ) → IsPlace p kinds k place → IsPlace p (kinds ++ x ∷ []) k place
  place_more kinds x k place is = record {
    within = let lt : place < length kinds = is.within in omega (arith, length_push kinds x);
    passes = λ d. ap p (get_or_append_left kinds (x ∷ []) d place is.within) ∙ is.passes d;
    count = let lt : place < length kinds = is.within in
        ap (count_by p) (take-append-le place kinds (x ∷ []) (omega arith)) ∙ is.count;
  }

  place_less : (kinds : List Kind) (x : Kind) (k place : ℕ) → place < length kinds → IsPlace p (kinds ++ x ∷ []) k place
      → IsPlace p kinds k place
  place_less kinds x k place lt is = record {
    within = lt;
    passes = λ d. ap p (sym (get_or_append_left kinds (x ∷ []) d place lt)) ∙ is.passes d;
    count = ap (count_by p) (sym (take-append-le place kinds (x ∷ []) (omega arith))) ∙ is.count;
  }

  -- the position of the last event
  place_last : (kinds : List Kind) (x : Kind) → p x ≡ true → IsPlace p (kinds ++ x ∷ []) (count_by p kinds) (length kinds)
  place_last kinds x yes_x = record {
    within = omega (arith, length_push kinds x);
    passes = λ d. ap p (get_or_push kinds x d (length kinds) refl) ∙ yes_x;
    count = ap (count_by p) (take_at kinds (x ∷ []) (length kinds) refl);
  }

  module _ (kinds : List Kind) (places : List ℕ) (are : IsPlaces p kinds places) where
    -- as many of the first n events pass as positions are below n
    pub below_are : (n m : ℕ) → m ≤ length places → (0 < m → get_or places (m - 1) 0 < n)
        → (m < length places → n ≤ get_or places m 0) → m ≡ count_by p (take n kinds)
    below_are n m le below above =
        let low : m ≤ count_by p (take n kinds) = elim (cases_lt 0 m) [
          | inl pos ↦
              let lt : get_or places (m - 1) 0 < n = below pos in
              let count : count_by p (take (get_or places (m - 1) 0 + 1) kinds) ≡ m - 1 + 1 =
              place_after kinds (m - 1) (get_or places (m - 1) 0) (are.1 (m - 1) (omega arith)) in
              let grows : count_by p (take (get_or places (m - 1) 0 + 1) kinds) ≤ count_by p (take n kinds) =
              count_grows p kinds (get_or places (m - 1) 0 + 1) n (omega arith) in
              omega arith
          | inr none ↦ omega arith
        ] in
        let high : count_by p (take n kinds) ≤ m = elim (cases_lt m (length places)) [
          | inl lt ↦
              let place : IsPlace p kinds m (get_or places m 0) = are.1 m lt in
              let count : count_by p (take (get_or places m 0) kinds) ≡ m = place.count in
              let grows : count_by p (take n kinds) ≤ count_by p (take (get_or places m 0) kinds) =
              count_grows p kinds n (get_or places m 0) (above lt) in
              omega arith
          | inr ge ↦
              let all : count_by p (take n kinds) ≤ count_by p kinds = sum_by-take-le (λ x. cond (p x) 1 0) kinds n in
              let len : length places ≡ count_by p kinds = are.0 in
              omega arith
        ] in
        omega arith

    -- one more event
    pub places_yes : (x : Kind) → p x ≡ true → IsPlaces p (kinds ++ x ∷ []) (places ++ length kinds ∷ [])
    places_yes x yes_x = (
      length_push places (length kinds) ∙ ap (λ n. n + 1) are.0 ∙ sym (count_yes kinds x yes_x),
      λ k lt. elim (cases_lt k (length places)) [
        | inl old ↦ subst (λ (place : ℕ). IsPlace p (kinds ++ x ∷ []) k place)
            (sym (get_or_append_left places (length kinds ∷ []) 0 k old))
            (place_more kinds x k (get_or places k 0) (are.1 k old))
        | inr new ↦
            let long : length (places ++ length kinds ∷ []) ≡ length places + 1 = length_push places (length kinds) in
            let here : length places ≡ k = omega arith in
            let last : count_by p kinds ≡ k = sym are.0 ∙ here in
            subst (λ (place : ℕ). IsPlace p (kinds ++ x ∷ []) k place) (sym (get_or_push places (length kinds) 0 k here))
            (subst (λ (n : ℕ). IsPlace p (kinds ++ x ∷ []) n (length kinds)) last (place_last kinds x yes_x))
      ],
    )

    pub places_no : (x : Kind) → p x ≡ false → IsPlaces p (kinds ++ x ∷ []) places
    places_no x no_x = (
      are.0 ∙ sym (count_no kinds x no_x),
      λ k lt. place_more kinds x k (get_or places k 0) (are.1 k lt),
    )

  -- one event less
  module _ (kinds : List Kind) (x : Kind) (places : List ℕ) (are : IsPlaces p (kinds ++ x ∷ []) places) where
    pub left_yes : p x ≡ true → IsPlaces p kinds (take (length places - 1) places)
    left_yes yes_x =
        let all : length places ≡ count_by p kinds + 1 = are.0 ∙ count_yes kinds x yes_x in
        let long : length (take (length places - 1) places) ≡ length places - 1 =
        length-take-le (length places - 1) places (omega arith) in (
          omega arith,
          λ k lt.
              let place : IsPlace p (kinds ++ x ∷ []) k (get_or places k 0) = are.1 k (omega arith) in
              subst (λ (n : ℕ). IsPlace p kinds k n) (sym (get_or-take (length places - 1) places k 0 (omega arith)))
              (elim (cases_lt (get_or places k 0) (length kinds)) [
                | inl inside ↦ place_less kinds x k (get_or places k 0) inside place
                | inr past ↦
                    let within : get_or places k 0 < length (kinds ++ x ∷ []) = place.within in
                    let last : get_or places k 0 ≡ length kinds = omega (arith, length_push kinds x) in
                    let count : k ≡ count_by p kinds = sym place.count
                    ∙ ap (count_by p) (take_at kinds (x ∷ []) (get_or places k 0) (sym last)) in
                    absurd (omega arith)
              ]),
        )

    pub left_no : p x ≡ false → IsPlaces p kinds places
    left_no no_x = (
      are.0 ∙ count_no kinds x no_x,
      λ k lt.
          let place : IsPlace p (kinds ++ x ∷ []) k (get_or places k 0) = are.1 k lt in
          elim (cases_lt (get_or places k 0) (length kinds)) [
            | inl inside ↦ place_less kinds x k (get_or places k 0) inside place
            | inr past ↦
                let within : get_or places k 0 < length (kinds ++ x ∷ []) = place.within in
                let last : length kinds ≡ get_or places k 0 = omega (arith, length_push kinds x) in
                let passes : p x ≡ true = ap p (sym (get_or_push kinds x x (get_or places k 0) last)) ∙ place.passes x in
                absurd cc
          ],
    )
