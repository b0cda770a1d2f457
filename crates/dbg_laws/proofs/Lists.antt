-- Lists of lists in which one place changes: a cell of a grid of lists, or one list that grows by one element. Changes of two places
-- commute.
use Rattle.std.proofs.Common.{◌≡◌, ◌≢◌, ℕ, ◌<◌, ◌≤◌, ◌⊎◌, List, [], ◌∷◌, length, get_or, set, sym, ap, ◌∙◌, arith, zero, suc, ◌++◌}
use Rattle.std.proofs.Common.{replicate, refl}
use Rattle.std.specs.Prelude.{ℤ}
use Rattle.std.proofs.lemmas.List.{get_or-set_same, get_or-set_other, set-set, set_comm, get_or_past, set_past, set-get_or, length-set}
use Rattle.std.proofs.lemmas.Bool.{cases_eq}

-- Grids of lists: for each row and column a list.

abbrev pub Grid : Type 0
Grid = List (List (List ℤ))

abbrev pub row : Grid → ℕ → List (List ℤ)
row g i = get_or g i []

abbrev pub cell : Grid → ℕ → ℕ → List ℤ
cell g i j = get_or (get_or g i []) j []

abbrev pub put : Grid → ℕ → ℕ → List ℤ → Grid
put g i j x = set g i (set (get_or g i []) j x)

-- the cells are different
abbrev pub Apart : ℕ → ℕ → ℕ → ℕ → Type 0
Apart i j k l = i ≡ k → j ≢ l

ruleset places = (get_or-set_same, get_or-set_other, set-set, set_comm, set_past, get_or_past, set-get_or)

pub within_or_past : (n p : ℕ) → (p < n) ⊎ (n ≤ p)
within_or_past n p = grind arith

-- a nonempty cell exists
pub row_within : (g : Grid) (i j : ℕ) (x : ℤ) (xs : List ℤ) → cell g i j ≡ x ∷ xs → i < length g
row_within g i j x xs e = grind (arith, get_or_past {X = List (List ℤ)})

pub cell_within : (g : Grid) (i j : ℕ) (x : ℤ) (xs : List ℤ) → cell g i j ≡ x ∷ xs → j < length (row g i)
cell_within g i j x xs e = grind (arith, get_or_past {X = List ℤ})

pub cell-put_other : (g : Grid) (i j k l : ℕ) (x : List ℤ) → Apart i j k l → cell (put g i j x) k l ≡ cell g k l
cell-put_other g i j k l x apart = grind (arith, places, cases_eq i k, within_or_past (length g) i)

pub cell-put_same : (g : Grid) (i j : ℕ) (x : List ℤ) → i < length g → j < length (row g i) → cell (put g i j x) i j ≡ x
cell-put_same g i j x a b = grind (arith, get_or-set_same {A = List (List ℤ)}, get_or-set_same {A = List ℤ})

pub put-put : (g : Grid) (i j : ℕ) (x y : List ℤ) → put (put g i j x) i j y ≡ put g i j y
put-put g i j x y = grind (arith, places, within_or_past (length g) i)

pub put_comm : (g : Grid) (i j k l : ℕ) (x y : List ℤ) → Apart i j k l → put (put g i j x) k l y ≡ put (put g k l y) i j x
put_comm g i j k l x y apart = grind (arith, places, cases_eq i k, within_or_past (length g) i)

pub put_kept : (g : Grid) (i j : ℕ) → put g i j (cell g i j) ≡ g
put_kept g i j = grind (arith, places)

-- one cell holds another list, made from its old one
abbrev pub change : Grid → ℕ → ℕ → (List ℤ → List ℤ) → Grid
change g i j f = put g i j (f (cell g i j))

pub changes_swap : (g : Grid) (i j k l : ℕ) (f h : List ℤ → List ℤ) → Apart i j k l
    → change (change g i j f) k l h ≡ change (change g k l h) i j f
changes_swap g i j k l f h apart =
    ap (λ (x : List ℤ). put (change g i j f) k l (h x)) (cell-put_other g i j k l (f (cell g i j)) apart)
    ∙ put_comm g i j k l (f (cell g i j)) (h (cell g k l)) apart
    ∙ ap (λ (x : List ℤ). put (change g k l h) i j (f x))
    (sym (cell-put_other g k l i j (h (cell g k l)) (λ (a : k ≡ i) (b : l ≡ j). apart (sym a) (sym b))))

pub change_twice : (g : Grid) (i j : ℕ) (x : ℤ) (xs : List ℤ) (f h : List ℤ → List ℤ) → cell g i j ≡ x ∷ xs
    → change (change g i j f) i j h ≡ put g i j (h (f (cell g i j)))
change_twice g i j x xs f h e =
    ap (λ (y : List ℤ). put (change g i j f) i j (h y))
    (cell-put_same g i j (f (cell g i j)) (row_within g i j x xs e) (cell_within g i j x xs e))
    ∙ put-put g i j (f (cell g i j)) (h (f (cell g i j)))

-- Lists of lists, one of which grows by one element at its end.

abbrev pub push : {A : Type 0} → List (List A) → ℕ → A → List (List A)
push lists p x = set lists p (get_or lists p [] ++ x ∷ [])

-- all lists are empty
pub none_in_replicate : {A : Type 0} (n p : ℕ) → ◌≡◌ {A = List A} (get_or (replicate n []) p []) []
none_in_replicate zero p = refl
none_in_replicate (suc n) zero = refl
none_in_replicate (suc n) (suc p) = none_in_replicate n p

pub length-push : {A : Type 0} (lists : List (List A)) (p : ℕ) (x : A) → length (push lists p x) ≡ length lists
length-push lists p x = length-set lists p (get_or lists p [] ++ x ∷ [])

pub push_same : {A : Type 0} (lists : List (List A)) (p : ℕ) (x : A) → p < length lists
    → get_or (push lists p x) p [] ≡ get_or lists p [] ++ x ∷ []
push_same lists p x within = get_or-set_same lists p (get_or lists p [] ++ x ∷ []) [] within

pub push_other : {A : Type 0} (lists : List (List A)) (p q : ℕ) (x : A) → q ≢ p → get_or (push lists p x) q [] ≡ get_or lists q []
push_other lists p q x apart = get_or-set_other lists p q (get_or lists p [] ++ x ∷ []) [] apart

pub set_push : {A : Type 0} (lists : List (List A)) (p : ℕ) (x : A) (list : List A) → set (push lists p x) p list ≡ set lists p list
set_push lists p x list = set-set lists p (get_or lists p [] ++ x ∷ []) list

pub push_set : {A : Type 0} (lists : List (List A)) (p : ℕ) (x : A) (list : List A) → p < length lists
    → push (set lists p list) p x ≡ set lists p (list ++ x ∷ [])
push_set {A} lists p x list within =
    set-set lists p list (get_or (set lists p list) p [] ++ x ∷ [])
    ∙ ap (λ (l : List A). set lists p (l ++ x ∷ [])) (get_or-set_same lists p list [] within)

pub pushes_swap : {A : Type 0} (lists : List (List A)) (p q : ℕ) (x y : A) → p ≢ q
    → push (push lists p x) q y ≡ push (push lists q y) p x
pushes_swap {A} lists p q x y apart =
    ap (λ (l : List A). set (push lists p x) q (l ++ y ∷ [])) (push_other lists p q x (λ (e : q ≡ p). apart (sym e)))
    ∙ set_comm lists p q (get_or lists p [] ++ x ∷ []) (get_or lists q [] ++ y ∷ []) apart
    ∙ ap (λ (l : List A). set (push lists q y) p (l ++ x ∷ [])) (sym (push_other lists q p y apart))

-- one list is set, and another one grows
pub push_set_other : {A : Type 0} (lists : List (List A)) (p q : ℕ) (x : A) (list : List A) → q ≢ p
    → push (set lists q list) p x ≡ set (push lists p x) q list
push_set_other {A} lists p q x list apart =
    ap (λ (l : List A). set (set lists q list) p (l ++ x ∷ [])) (get_or-set_other lists q p list [] (λ (e : p ≡ q). apart (sym e)))
    ∙ set_comm lists q p list (get_or lists p [] ++ x ∷ []) apart
