-- A flat list in pieces: their number, one more, one less, and one of them.
use Rattle.std.proofs.Common.{◌≡◌, ℕ, zero, suc, ◌+◌, ◌*◌, ◌<◌, ◌≤◌, List, [], ◌∷◌, ◌++◌, length, get_or, take, drop}
use Rattle.std.proofs.Common.{refl, sym, ap, ◌∙◌, arith, length-drop}
use Rattle.std.proofs.lemmas.List.{take-append-le, drop-append-le, take_all, take-take, drop-take, drop-drop}
use Rattle.clock_rows.specs.Clocks.{pieces}

pub length_pieces : (n k : ℕ) (list : List ℕ) → length (pieces n k list) ≡ k
length_pieces n zero list = refl
length_pieces n (suc k) list = ap suc (length_pieces n k (drop n list))

-- one more piece at the end
pub pieces_more : (n k : ℕ) (list more : List ℕ) → length list ≡ k * n → length more ≡ n
    → pieces n (suc k) (list ++ more) ≡ pieces n k list ++ more ∷ []
pieces_more n zero [] more len wide = ap (λ (row : List ℕ). row ∷ []) (take_all n more (omega arith))
pieces_more n zero (x ∷ list) more len wide = absurd (omega arith)
pieces_more n (suc k) list more len wide =
    let inside : n ≤ length list = omega arith in
    let left : length (drop n list) ≡ k * n = omega (arith, length-drop n list) in
    let first : take n (list ++ more) ≡ take n list = take-append-le n list more inside in
    let rest : drop n (list ++ more) ≡ drop n list ++ more = drop-append-le n list more inside in
    ap (λ (row : List ℕ). row ∷ pieces n (suc k) (drop n (list ++ more))) first
    ∙ ap (λ (others : List ℕ). take n list ∷ pieces n (suc k) others) rest
    ∙ ap (λ (rows : List (List ℕ)). take n list ∷ rows) (pieces_more n k (drop n list) more left wide)

-- what is after the pieces does not matter
pub pieces_within : (n k : ℕ) (list : List ℕ) → pieces n k (take (k * n) list) ≡ pieces n k list
pieces_within n zero list = refl
pieces_within n (suc k) list =
    let split : suc k * n ≡ n + k * n = omega arith in
    let first : take n (take (suc k * n) list) ≡ take n list =
    take-take n (suc k * n) list (omega arith) in
    let rest : drop n (take (suc k * n) list) ≡ take (k * n) (drop n list) =
    ap (λ (m : ℕ). drop n (take m list)) split ∙ drop-take n (k * n) list in
    ap (λ (row : List ℕ). row ∷ pieces n k (drop n (take (suc k * n) list))) first
    ∙ ap (λ (others : List ℕ). take n list ∷ pieces n k others) rest
    ∙ ap (λ (rows : List (List ℕ)). take n list ∷ rows) (pieces_within n k (drop n list))

fewer : (n k : ℕ) (list : List ℕ) → pieces n k list ≡ take k (pieces n (suc k) list)
fewer n zero list = refl
fewer n (suc k) list = ap (λ (rows : List (List ℕ)). take n list ∷ rows) (fewer n k (drop n list))

-- the last piece is removed
pub pieces_less : (n k : ℕ) (list : List ℕ) → pieces n k (take (k * n) list) ≡ take k (pieces n (suc k) list)
pieces_less n k list = pieces_within n k list ∙ fewer n k list

-- the i-th piece
pub piece_at : (n k i : ℕ) (list : List ℕ) → i < k → get_or (pieces n k list) i [] ≡ take n (drop (i * n) list)
piece_at n zero i list lt = absurd (omega arith)
piece_at n (suc k) zero list lt = let none : 0 ≡ 0 * n = omega arith in ap (λ (m : ℕ). take n (drop m list)) none
piece_at n (suc k) (suc i) list lt =
    let far : suc i * n ≡ n + i * n = omega arith in
    piece_at n k i (drop n list) (omega arith) ∙ ap (take n) (drop-drop (i * n) n list ∙ ap (λ (m : ℕ). drop m list) (sym far))
