-- The best of finitely many lists of numbers. Some are good, and for two good ones some good one is as good as both.
use Rattle.std.proofs.Common.{◌≡◌, ◌⊎◌, inl, inr, ⊎_elim, ℕ, zero, suc, ◌≤◌, List, [], ◌∷◌, refl, sym, subst, arith}

-- each component is at most that of the bounds
abbrev pub Fits : List ℕ → List ℕ → Type 0
Fits [] [] = Unit {0}
Fits [] (n ∷ v) = ⊥
Fits (b ∷ bounds) [] = ⊥
Fits (b ∷ bounds) (n ∷ v) = (n ≤ b) × Fits bounds v

module _ (Good : List ℕ → Type 0) (decide : (v : List ℕ) → Good v ⊎ (¬ Good v)) (R : List ℕ → List ℕ → Type 0)
    (same : (v : List ℕ) → R v v) (along : (u v w : List ℕ) → R u v → R v w → R u w)
    (join : (v w : List ℕ) → Good v → Good w → (u : List ℕ) × Good u × R u v × R u w) where
  -- one that is as good as each good one in S, or S has no good one
  abbrev Best : (List ℕ → Type 0) → Type 0
  Best S = ((u : List ℕ) × Good u × ((w : List ℕ) → S w → Good w → R u w)) ⊎ ((w : List ℕ) → S w → Good w → ⊥)

  fewer : (S T : List ℕ → Type 0) → ((w : List ℕ) → T w → S w) → Best S → Best T
  fewer S T f (inl best) = inl (best.0, best.1, λ w t good. best.2 w (f w t) good)
  fewer S T f (inr none) = inr (λ w t good. none w (f w t) good)

  either : (S T : List ℕ → Type 0) → Best S → Best T → Best (λ w. S w ⊎ T w)
  either S T (inl a) (inl b) =
      let j = join a.0 b.0 a.1 b.1 in
      inl (
        j.0,
        j.1,
        λ w is good.
            ⊎_elim (λ (s : S w). along j.0 a.0 w j.2 (a.2 w s good)) (λ (t : T w). along j.0 b.0 w j.3 (b.2 w t good)) is,
      )
  either S T (inl a) (inr none) = inl (a.0, a.1, λ w is good. ⊎_elim (λ (s : S w). a.2 w s good) (λ (t : T w). absurd (none w t good)) is)
  either S T (inr none) (inl b) = inl (b.0, b.1, λ w is good. ⊎_elim (λ (s : S w). absurd (none w s good)) (λ (t : T w). b.2 w t good) is)
  either S T (inr none) (inr none_there) =
      inr (λ w is good. ⊎_elim (λ (s : S w). none w s good) (λ (t : T w). none_there w t good) is)

  only : (v : List ℕ) → Best (λ w. w ≡ v)
  only v =
      ⊎_elim (λ (good : Good v). inl (v, good, λ w e other. subst (R v) (sym e) (same v)))
      (λ (bad : ¬ Good v). inr (λ w e good. bad (subst Good e good))) (decide v)

  nothing_fits : (v : List ℕ) → Fits [] v → v ≡ []
  nothing_fits [] fits = refl
  nothing_fits (n ∷ v) fits = absurd fits

  -- induction over the first component
  up_to : (bounds : List ℕ) (f : List ℕ → List ℕ)
      → ((g : List ℕ → List ℕ) → Best (λ w. (v : List ℕ) × Fits bounds v × (w ≡ g v)))
      → (n : ℕ) → Best (λ w. (k : ℕ) × (v : List ℕ) × (k ≤ n) × Fits bounds v × (w ≡ f (k ∷ v)))
  up_to bounds f rest zero =
      fewer (λ w. (v : List ℕ) × Fits bounds v × (w ≡ f (0 ∷ v)))
      (λ w. (k : ℕ) × (v : List ℕ) × (k ≤ 0) × Fits bounds v × (w ≡ f (k ∷ v)))
      (λ w is.
      let k : ℕ = is.0 in
      let few : k ≤ 0 = is.2 in
      let none : k ≡ 0 = omega arith in
      (is.1, is.3, subst (λ (m : ℕ). w ≡ f (m ∷ is.1)) none is.4))
      (rest (λ v. f (0 ∷ v)))
  up_to bounds f rest (suc n) =
      fewer (λ w. ((k : ℕ) × (v : List ℕ) × (k ≤ n) × Fits bounds v × (w ≡ f (k ∷ v)))
      ⊎ ((v : List ℕ) × Fits bounds v × (w ≡ f (suc n ∷ v))))
      (λ w. (k : ℕ) × (v : List ℕ) × (k ≤ suc n) × Fits bounds v × (w ≡ f (k ∷ v)))
      (λ w is.
      let k : ℕ = is.0 in
      let few : k ≤ suc n = is.2 in
      ⊎_elim (λ (less : k ≤ n). inl (k, is.1, less, is.3, is.4))
      (λ (last : k ≡ suc n). inr (is.1, is.3, subst (λ (m : ℕ). w ≡ f (m ∷ is.1)) last is.4)) (last_or_less k n few))
      (either (λ w. (k : ℕ) × (v : List ℕ) × (k ≤ n) × Fits bounds v × (w ≡ f (k ∷ v)))
      (λ w. (v : List ℕ) × Fits bounds v × (w ≡ f (suc n ∷ v))) (up_to bounds f rest n) (rest (λ v. f (suc n ∷ v))))
    where
      last_or_less : (k n : ℕ) → k ≤ suc n → (k ≤ n) ⊎ (k ≡ suc n)
      last_or_less k n few = grind arith

  among : (bounds : List ℕ) (f : List ℕ → List ℕ) → Best (λ w. (v : List ℕ) × Fits bounds v × (w ≡ f v))
  among [] f =
      fewer (λ w. w ≡ f []) (λ w. (v : List ℕ) × Fits [] v × (w ≡ f v))
      (λ w is. subst (λ (v : List ℕ). w ≡ f v) (nothing_fits is.0 is.1) is.2) (only (f []))
  among (b ∷ bounds) f =
      fewer (λ w. (k : ℕ) × (v : List ℕ) × (k ≤ b) × Fits bounds v × (w ≡ f (k ∷ v)))
      (λ w. (v : List ℕ) × Fits (b ∷ bounds) v × (w ≡ f v)) (λ w is. taken w is.0 is.1 is.2)
      (up_to bounds f (λ g. among bounds g) b)
    where
      taken : (w v : List ℕ) → Fits (b ∷ bounds) v → w ≡ f v → (k : ℕ) × (v : List ℕ) × (k ≤ b) × Fits bounds v × (w ≡ f (k ∷ v))
      taken w [] fits e = absurd fits
      taken w (n ∷ v) fits e = (n, v, fits.0, fits.1, e)

  -- one good list is as good as each, if the good ones are within bounds; or there is none
  pub best : (bounds : List ℕ) → ((v : List ℕ) → Good v → Fits bounds v)
      → ((u : List ℕ) × Good u × ((w : List ℕ) → Good w → R u w)) ⊎ ((w : List ℕ) → ¬ Good w)
  best bounds fits =
      ⊎_elim (λ (found : (u : List ℕ) × Good u × ((w : List ℕ) → ((v : List ℕ) × Fits bounds v × (w ≡ v)) → Good w → R u w)).
      inl (found.0, found.1, λ w good. found.2 w (w, fits w good, refl) good))
      (λ (none : (w : List ℕ) → ((v : List ℕ) × Fits bounds v × (w ≡ v)) → Good w → ⊥).
      inr (λ w good. none w (w, fits w good, refl) good)) (among bounds (λ v. v))
