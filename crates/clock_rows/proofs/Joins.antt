-- The join of two rows, component by component.
use Rattle.std.proofs.Common.{◌≡◌, ℕ, zero, suc, ◌<◌, List, [], ◌∷◌, ◌++◌, length, get_or, set, take, drop, max, refl, ap, ◌∙◌, arith}
use Rattle.std.proofs.lemmas.List.{take-append-le, take_all}
use Rattle.clock_rows.specs.Clocks.{join}

pub length_join : (row other : List ℕ) → length row ≡ length other → length (join row other) ≡ length row
length_join [] other len = refl
length_join (m ∷ row) [] len = absurd (omega arith)
length_join (m ∷ row) (n ∷ other) len = ap suc (length_join row other (omega arith))

pub join_self : (row : List ℕ) → join row row ≡ row
join_self [] = refl
join_self (m ∷ row) =
    let larger : max m m ≡ m = omega arith in
    ap (λ (k : ℕ). k ∷ join row row) larger ∙ ap (λ (rest : List ℕ). m ∷ rest) (join_self row)

-- the counts so far are joined, the others are still those that were there
pub join_so_far : (row other counts : List ℕ) (at : ℕ) → at < length counts → length row ≡ length counts → length other ≡ length counts
    → set (join (take at row) (take at other) ++ drop at counts) at (max (get_or row at 0) (get_or other at 0))
    ≡ join (take (suc at) row) (take (suc at) other) ++ drop (suc at) counts
join_so_far row other [] at lt len wide = absurd (omega arith)
join_so_far [] other (c ∷ counts) at lt len wide = absurd (omega arith)
join_so_far (m ∷ row) [] (c ∷ counts) at lt len wide = absurd (omega arith)
join_so_far (m ∷ row) (n ∷ other) (c ∷ counts) zero lt len wide = refl
join_so_far (m ∷ row) (n ∷ other) (c ∷ counts) (suc at) lt len wide =
    ap (λ (rest : List ℕ). max m n ∷ rest) (join_so_far row other counts at (omega arith) (omega arith) (omega arith))

-- a row written over the whole of another one
pub written_over : (n : ℕ) (row old : List ℕ) → length row ≡ n → take n (row ++ drop (length row) old) ≡ row
written_over n row old long =
    take-append-le n row (drop (length row) old) (omega arith) ∙ take_all n row (omega arith)
