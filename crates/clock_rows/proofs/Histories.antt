-- The rows of one process in a flat list of `len` counts, with `n` counts in each row.
use Rattle.std.proofs.Common.{◌≡◌, ℕ, zero, suc, ◌+◌, ◌-◌, ◌*◌, ◌/◌, ◌<◌, ◌≤◌, List, [], ◌∷◌, ◌++◌, length, get_or, take, drop, replicate}
use Rattle.std.proofs.Common.{sym, ap, ◌∙◌, arith, length-drop, add-one, subst}
use Rattle.std.proofs.lemmas.List.{take_all, length-replicate}
use Rattle.std.proofs.Math.Nat.{div-eq-sub-div, mul-le-mul_left, mul-div_cancel}
use Rattle.clock_rows.specs.Clocks.{pieces, last_row, AreWholeRows}
use Rattle.clock_rows.proofs.Pieces.{length_pieces, pieces_more, pieces_less, piece_at}

one_less : (room n : ℕ) → 0 < room → room * n ≡ (room - 1) * n + n
one_less zero n lt = absurd (omega arith)
one_less (suc room) n lt =
    let times : suc room * n ≡ (room + 1) * n = ap (λ (k : ℕ). k * n) (sym (add-one room)) in
    let spread : (room + 1) * n ≡ room * n + n = omega arith in
    let less : suc room - 1 ≡ room = omega arith in
    times ∙ spread ∙ ap (λ (k : ℕ). k * n + n) (sym less)

module _ (n len : ℕ) (rows : AreWholeRows n len) where
  pub count_less : (len - n) / n + 1 ≡ len / n
  count_less = sym (div-eq-sub-div rows.wide rows.has_first)

  pub before_last : (len - n) / n * n ≡ len - n
  before_last =
      let all : len ≡ len / n * n = rows.whole in
      let one : (len - n) / n + 1 ≡ len / n = count_less in
      let times : len / n * n ≡ ((len - n) / n + 1) * n = ap (λ (k : ℕ). k * n) (sym one) in
      let spread : ((len - n) / n + 1) * n ≡ (len - n) / n * n + n = omega arith in
      omega (arith, rows.has_first)

  pub count_more : (len + n) / n ≡ len / n + 1
  count_more =
      let inside : n ≤ len + n = omega arith in
      let less : len + n - n ≡ len = omega arith in
      div-eq-sub-div rows.wide inside ∙ ap (λ (k : ℕ). k / n + 1) less

  pub within : (i : ℕ) → i < len / n → i * n + n ≤ len
  within i lt =
      let most : n * (i + 1) ≤ n * (len / n) = mul-le-mul_left n (omega arith) in
      let all : len ≡ len / n * n = rows.whole in
      omega arith

  pub whole_more : AreWholeRows n (len + n)
  whole_more = record {
    wide = rows.wide;
    has_first = omega arith;
    whole =
        let all : len ≡ len / n * n = rows.whole in
        let times : (len + n) / n * n ≡ (len / n + 1) * n = ap (λ (k : ℕ). k * n) count_more in
        let spread : (len / n + 1) * n ≡ len / n * n + n = omega arith in
        omega arith;
  }

  pub whole_less : 1 < len / n → AreWholeRows n (len - n)
  whole_less lt = record {
    wide = rows.wide;
    has_first = let two : 1 * n + n ≤ len = within 1 lt in omega arith;
    whole = sym before_last;
  }

  pub rows_more : (list more : List ℕ) → length list ≡ len → length more ≡ n
      → pieces n ((len + n) / n) (list ++ more) ≡ pieces n (len / n) list ++ more ∷ []
  rows_more list more long wide =
      ap (λ (k : ℕ). pieces n k (list ++ more)) (count_more ∙ add-one (len / n))
      ∙ pieces_more n (len / n) list more (long ∙ rows.whole) wide

  pub rows_less : (list : List ℕ)
      → pieces n ((len - n) / n) (take (len - n) list) ≡ take (length (pieces n (len / n) list) - 1) (pieces n (len / n) list)
  rows_less list =
      let p : ℕ = (len - n) / n in
      let count : length (pieces n (len / n) list) - 1 ≡ (len - n) / n =
      omega (arith, length_pieces n (len / n) list, count_less) in
      ap (λ (m : ℕ). pieces n ((len - n) / n) (take m list)) (sym before_last)
      ∙ pieces_less n ((len - n) / n) list
      ∙ ap (λ (k : ℕ). take ((len - n) / n) (pieces n k list)) (sym (add-one ((len - n) / n)) ∙ count_less)
      ∙ ap (λ (k : ℕ). take k (pieces n (len / n) list)) (sym count)

  pub last_is : (list : List ℕ) → length list ≡ len → last_row (pieces n (len / n) list) ≡ drop (len - n) list
  last_is list long =
      let count : length (pieces n (len / n) list) - 1 ≡ (len - n) / n =
      omega (arith, length_pieces n (len / n) list, count_less) in
      let inside : (len - n) / n < len / n = omega (arith, count_less) in
      let rest : length (drop (len - n) list) ≤ n = omega (arith, length-drop (len - n) list) in
      ap (λ (k : ℕ). get_or (pieces n (len / n) list) k []) count
      ∙ piece_at n (len / n) ((len - n) / n) list inside
      ∙ ap (λ (m : ℕ). take n (drop m list)) before_last
      ∙ take_all n (drop (len - n) list) rest

  -- after the last row is removed
  module _ (after m : ℕ) (same : m ≡ len) (less : after + (len - (m - n)) ≡ len) where
    left : after ≡ len - n
    left = omega (arith, rows.has_first)

    pub whole_popped : (list : List ℕ) → 1 < length (pieces n (len / n) list) → AreWholeRows n after
    whole_popped list many =
        let two : 1 < len / n = omega (arith, length_pieces n (len / n) list) in
        subst (λ (k : ℕ). AreWholeRows n k) (sym left) (whole_less two)

    pub rows_popped : (list kept : List ℕ) → kept ≡ take (m - n) list
        → pieces n (after / n) kept ≡ take (length (pieces n (len / n) list) - 1) (pieces n (len / n) list)
    rows_popped list kept is =
        ap (λ (xs : List ℕ). pieces n (after / n) xs) (is ∙ ap (λ (k : ℕ). take (k - n) list) same)
        ∙ ap (λ (k : ℕ). pieces n (k / n) (take (len - n) list)) left ∙ rows_less list

  -- after a row is pushed
  module _ (after : ℕ) (list row : List ℕ) (long : length list ≡ len) (wide : length row ≡ n) where
    pub whole_pushed : after ≡ len + length row → AreWholeRows n after
    whole_pushed more =
        let by_n : len + n ≡ after = omega arith in
        subst (λ (k : ℕ). AreWholeRows n k) by_n whole_more

    pub rows_pushed : (kept : List ℕ) → after ≡ len + length row → kept ≡ list ++ row
        → pieces n (after / n) kept ≡ pieces n (len / n) list ++ row ∷ []
    rows_pushed kept more is =
        let by_n : after ≡ len + n = omega arith in
        ap (λ (xs : List ℕ). pieces n (after / n) xs) is
        ∙ ap (λ (k : ℕ). pieces n (k / n) (list ++ row)) by_n
        ∙ rows_more list row long wide

    pub room_pushed : (room capacity holds : ℕ) → after ≡ len + length row → capacity ≤ holds → 0 < room
        → room * n ≤ capacity - len → (room - 1) * n ≤ holds - after
    room_pushed room capacity holds more kept some enough =
        let one : room * n ≡ (room - 1) * n + n = one_less room n some in
        omega arith

  -- the last row, read from `flat`
  pub last_read : (m : ℕ) (list flat : List ℕ) → m ≡ len → length list ≡ len → flat ≡ list
      → take (length flat - (m - n)) (drop (m - n) flat) ≡ last_row (pieces n (len / n) list)
  last_read m list flat same long is =
      let whole : take (length flat - (m - n)) (drop (m - n) flat) ≡ drop (m - n) flat =
      take_all (length flat - (m - n)) (drop (m - n) flat) (omega (arith, length-drop (m - n) flat)) in
      whole ∙ ap (λ (xs : List ℕ). drop (m - n) xs) is ∙ ap (λ (k : ℕ). drop (k - n) list) same ∙ sym (last_is list long)

  -- the row that ends where the list ends is the last one
  pub ends_last : (i m : ℕ) (list : List ℕ) → m ≡ len → i * n + n ≡ m
      → get_or (pieces n (len / n) list) i [] ≡ last_row (pieces n (len / n) list)
  ends_last i m list same ends =
      let spread : (i + 1) * n ≡ i * n + n = omega arith in
      let count : len / n ≡ i + 1 = ap (λ (k : ℕ). k / n) (sym same ∙ sym ends ∙ sym spread) ∙ mul-div_cancel (i + 1) rows.wide in
      let last : i ≡ length (pieces n (len / n) list) - 1 = omega (arith, length_pieces n (len / n) list, count) in
      ap (λ (k : ℕ). get_or (pieces n (len / n) list) k []) last

  -- the i-th row is within the list
  pub row_within : (i : ℕ) (list : List ℕ) → i < length (pieces n (len / n) list) → i * n + n ≤ len
  row_within i list lt =
      let inside : i < len / n = omega (arith, length_pieces n (len / n) list) in
      within i inside

  pub row_read : (i : ℕ) (list read : List ℕ) → i < length (pieces n (len / n) list) → read ≡ list
      → take (i * n + n - i * n) (drop (i * n) read) ≡ get_or (pieces n (len / n) list) i []
  row_read i list read lt is =
      let inside : i < len / n = omega (arith, length_pieces n (len / n) list) in
      let some : i * n + n - i * n ≡ n = omega arith in
      ap (λ (k : ℕ). take k (drop (i * n) read)) some ∙ ap (λ (xs : List ℕ). take n (drop (i * n) xs)) is
      ∙ sym (piece_at n (len / n) i list inside)

-- one row of zeros
pub first_rows : (n len : ℕ) (list : List ℕ) → 0 < n → len ≡ n → list ≡ replicate n 0
    → pieces n (len / n) list ≡ replicate n 0 ∷ []
first_rows n len list wide same is =
    let once : 1 * n ≡ n = omega arith in
    let one : len / n ≡ 1 = ap (λ (k : ℕ). k / n) (same ∙ sym once) ∙ mul-div_cancel 1 wide in
    let long : length (replicate n 0) ≤ n = omega (arith, length-replicate {A = ℕ} n 0) in
    ap (λ (k : ℕ). pieces n k list) one ∙ ap (λ (xs : List ℕ). pieces n 1 xs) is
    ∙ ap (λ (row : List ℕ). row ∷ []) (take_all n (replicate n 0) long)
