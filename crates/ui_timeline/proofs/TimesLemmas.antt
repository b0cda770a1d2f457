-- How often a process is in a list.
use Rattle.std.proofs.Common.{◌≡◌, ◌≢◌, ◌+◌, ℕ, List, [], ◌∷◌, ◌++◌, ap, eqb, cond}
use Rattle.std.proofs.lemmas.Bool.{eq-eqb, ne_eqb}
use Rattle.std.proofs.lemmas.List.Sums.{sum_by-cons, sum_by_push}
use Rattle.ui_timeline.specs.FirstCuts.{times}

abbrev pub one_if : ℕ → ℕ → ℕ
one_if q p = cond (eqb q p) 1 0

pub once : (p q : ℕ) → q ≡ p → ◌≡◌ {A = ℕ} (one_if q p) 1
once p q same = ap (λ b. cond b 1 0) (eq-eqb q p same)

pub never : (p q : ℕ) → q ≢ p → ◌≡◌ {A = ℕ} (one_if q p) 0
never p q apart = ap (λ b. cond b 1 0) (ne_eqb q p apart)

pub times_first : (p q : ℕ) (order : List ℕ) → times p (q ∷ order) ≡ one_if q p + times p order
times_first p q order = sum_by-cons (λ x. cond (eqb x p) 1 0) q order

pub times_more : (p q : ℕ) (order : List ℕ) → times p (order ++ q ∷ []) ≡ times p order + one_if q p
times_more p q order = sum_by_push (λ x. cond (eqb x p) 1 0) order q
