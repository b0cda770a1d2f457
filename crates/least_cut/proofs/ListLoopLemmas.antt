-- A loop over the positions of a list: what is searched for in it, and what each element became.
use Rattle.std.proofs.Common.{◌≡◌, ℕ, zero, suc, ◌+◌, ◌<◌, ◌≤◌, Bool, true, false, List, [], ◌∷◌, ◌++◌, length, get_or, set, map, take}
use Rattle.std.proofs.Common.{◌≢◌, refl, sym, ap, ◌∙◌, subst, ⊎_elim, arith, take_all}
use Rattle.std.specs.Prelude.{◌||◌}
use Rattle.std.specs.List.{list_any, AllByRecursion}
use Rattle.std.proofs.lemmas.Bool.{cases_eq}
use Rattle.std.proofs.lemmas.List.{length-map, length-set, get_or-map, get_or-set_same, get_or-set_other, get_or_default}
use Rattle.std.proofs.lemmas.List.Folds.{list_any_at, list_any_more}

module _ {A B : Type 0} (f : A → B) (test : B → Bool) {xs inside : List A} {ys : List B} (items : xs ≡ inside)
    (view : map f inside ≡ ys) (i : ℕ) where
  seen : map f xs ≡ ys
  seen = ap (λ (l : List A). map f l) items ∙ view

  -- an element that passes the test is found
  pub found : (x : A) → x ≡ get_or xs i x → i < length xs → test (f x) ≡ true → true ≡ list_any test ys
  found x here lt passes =
      sym (list_any_at test (map f xs) i (f x) (rw (length-map xs f) lt)
      (ap test (get_or-map f xs i x (f x) lt ∙ ap f (sym here)) ∙ passes))
      ∙ ap (list_any test) seen

  -- none passed so far, and this element does not pass
  pub none_more : (x : A) → x ≡ get_or xs i x → i < length xs → test (f x) ≡ false → list_any test (take i ys) ≡ false
      → list_any test (take (i + 1) ys) ≡ false
  none_more x here lt fails before =
      list_any_more test ys i (f x) (omega (arith, lt, length-map xs f, ap (λ (l : List B). length l) seen))
      ∙ ap (λ (b : Bool). b || test (get_or ys i (f x))) before
      ∙ ap (λ (l : List B). test (get_or l i (f x))) (sym seen)
      ∙ ap test (get_or-map f xs i x (f x) lt ∙ ap f (sym here)) ∙ fails

  -- no element passed at all
  pub none_left : length xs ≤ i → list_any test (take i ys) ≡ false → false ≡ list_any test ys
  none_left past none =
      sym (ap (list_any test) (sym (take_all i ys (omega (arith, past, length-map xs f, ap (λ (l : List B). length l) seen)))) ∙ none)

-- what holds of all elements holds at each position, and conversely
pub all_at : {A : Type 0} (P : A → Type 0) (xs : List A) (k : ℕ) (x : A) → AllByRecursion P xs → k < length xs → P (get_or xs k x)
all_at P [] k x all lt = absurd (omega arith)
all_at P (y ∷ xs) zero x all lt = all.0
all_at P (y ∷ xs) (suc k) x all lt = all_at P xs k x all.1 (omega arith)

pub all_from : {A : Type 0} (P : A → Type 0) (xs : List A) → ((k : ℕ) (x : A) → k < length xs → P (get_or xs k x)) → AllByRecursion P xs
all_from P [] each = tt
all_from P (y ∷ xs) each = (each 0 y (omega arith), all_from P xs (λ k x lt. each (suc k) x (omega arith)))

-- lists of which f sees the same at each position
pub same_map : {A B : Type 0} (f : A → B) (xs ys : List A) → length xs ≡ length ys
    → ((k : ℕ) (x : A) → k < length ys → f (get_or xs k x) ≡ f (get_or ys k x)) → map f xs ≡ map f ys
same_map f [] [] same each = refl
same_map f [] (y ∷ ys) same each = absurd (omega arith)
same_map f (x ∷ xs) [] same each = absurd (omega arith)
same_map f (x ∷ xs) (y ∷ ys) same each =
    let first : f x ≡ f y = each 0 x (omega arith) in
    let rest : map f xs ≡ map f ys = same_map f xs ys (omega arith) (λ k z lt. each (suc k) z (omega arith)) in
    cc

-- the first i elements became as R says, and the others stayed
pub record Became {A : Type 0} (R : A → A → Type 0) (old new : List A) (i : ℕ) : Type 0 where
  pub len : length new ≡ length old
  pub each : (k : ℕ) (x : A) → k < i → k < length old → R (get_or old k x) (get_or new k x)
  pub others : (k : ℕ) (x : A) → i ≤ k → get_or new k x ≡ get_or old k x

module _ {A : Type 0} {R : A → A → Type 0} {old new : List A} {i : ℕ} {x : A} (is : Became R old new i) (here : x ≡ get_or new i x)
    (lt : i < length new) where
  -- one more position
  pub became_more : {y : A} → R x y → Became R old (set new i y) (i + 1)
  became_more {y} r = record {
    len = length-set new i y ∙ is.len;
    each = λ k z less within.
        ⊎_elim
        (λ (same : i ≡ k).
        let there : k < length new = omega (arith, is.len) in
        let at_old : x ≡ get_or old i z = here ∙ get_or_default new i x z lt ∙ is.others i z (omega arith) in
        subst (λ (a : A). R a (get_or (set new i y) k z)) (at_old ∙ ap (λ (j : ℕ). get_or old j z) same)
        (subst (λ (b : A). R x b)
        (sym (ap (λ (j : ℕ). get_or (set new j y) k z) same ∙ get_or-set_same new k y z there)) r))
        (λ (apart : i ≢ k).
        subst (λ (b : A). R (get_or old k z) b) (sym (get_or-set_other new i k y z (λ e. apart (sym e))))
        (is.each k z (omega (arith, apart)) within))
        (cases_eq i k);
    others = λ k z le. get_or-set_other new i k y z (omega arith) ∙ is.others k z (omega arith);
  }

  -- what held of all elements at first holds of the next one
  pub at_turn : (P : A → Type 0) → AllByRecursion P old → P x
  at_turn P all =
      subst P (sym (here ∙ is.others i x (omega arith))) (all_at P old i x all (omega (arith, lt, is.len)))

-- the same with a weaker relation
pub became_less : {A : Type 0} {R S : A → A → Type 0} {old new : List A} {i : ℕ} → Became R old new i → ((a b : A) → R a b → S a b)
    → Became S old new i
became_less {A} {R} {S} {old} {new} {i} is less = record {
  len = is.len;
  each = λ k x lt within. less (get_or old k x) (get_or new k x) (is.each k x lt within);
  others = is.others;
}

-- one more element with the property
pub all_push : {A : Type 0} (P : A → Type 0) (xs : List A) (x : A) → AllByRecursion P xs → P x → AllByRecursion P (xs ++ x ∷ [])
all_push P [] x all holds = (holds, tt)
all_push P (y ∷ xs) x all holds = (all.0, all_push P xs x all.1 holds)
