-- How many of the first elements pass a test.
use Rattle.std.proofs.Common.{ℕ, ◌≤◌, Bool, cond, List, take, subst}
use Rattle.std.specs.List.{count_by}
use Rattle.std.proofs.lemmas.List.{take-take}
use Rattle.std.proofs.lemmas.List.Sums.{sum_by-take-le}

-- of more elements at least as many pass
pub count_grows : {X : Type 0} (p : X → Bool) (xs : List X) (m n : ℕ) → m ≤ n → count_by p (take m xs) ≤ count_by p (take n xs)
count_grows p xs m n le =
    subst (λ ys. count_by p ys ≤ count_by p (take n xs)) (take-take m n xs le) (sum_by-take-le (λ x. cond (p x) 1 0) (take n xs) m)
