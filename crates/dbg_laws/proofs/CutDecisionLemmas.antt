-- It is decided which cuts are consistent, and which satisfy conjuncts: by as many comparisons as there are pairs of processes.
use Rattle.std.proofs.Common.{◌≡◌, ◌≢◌, ◌⊎◌, inl, inr, ⊎_elim, ℕ, zero, suc, ◌+◌, ◌<◌, ◌≤◌, Bool, true, false, cond, List, [], ◌∷◌}
use Rattle.std.proofs.Common.{length, get_or, take, Option, Some, None, refl, ap, ◌∙◌, subst, arith}
use Rattle.std.specs.List.{AllByRecursion, count_by}
use Rattle.std.proofs.lemmas.Bool.{cases_lt}
use Rattle.std.proofs.lemmas.List.{get_or_past}
use Rattle.std.proofs.lemmas.List.Sums.{sum_by-cons}
use Rattle.std.proofs.Math.Seq.{take-nil}
use Rattle.dbg_base.specs.Trees.{Program, command_of}
use Rattle.dbg_base.specs.Histories.{History}
use Rattle.dbg_base.specs.Orders.{source_in}
use Rattle.dbg_base.specs.Counts.{is_process, receives_from, sent, got}
use Rattle.dbg_base.specs.Cuts.{IsConsistent}
use Rattle.dbg_base.specs.Predicates.{Conjunct, is_true, Satisfies}

-- Facts that are decided.

abbrev pub Known : Type 0 → Type 0
Known A = A ⊎ (¬ A)

pub known_le : (m n : ℕ) → Known (m ≤ n)
known_le m n = ⊎_elim (λ (less : n < m). inr (λ le. absurd (omega arith))) (λ (le : m ≤ n). inl le) (cases_lt n m)

pub known_same : (m n : ℕ) → Known (m ≡ n)
known_same m n =
    ⊎_elim (λ (less : m < n). inr (λ e. absurd (omega arith)))
    (λ (le : n ≤ m). ⊎_elim (λ (more : n < m). inr (λ e. absurd (omega arith))) (λ (most : m ≤ n). inl (omega arith)) (cases_lt n m))
    (cases_lt m n)

pub known_true : (b : Bool) → Known (b ≡ true)
known_true true = inl refl
known_true false = inr (λ e. cc)

known_unless : (A B : Type 0) → Known A → Known B → Known ((¬ A) → B)
known_unless A B (inl a) b = inl (λ refused. absurd (refused a))
known_unless A B (inr refused) (inl b) = inl (λ given. b)
known_unless A B (inr refused) (inr fails) = inr (λ all. fails (all refused))

-- each number below a bound
pub known_below : (n : ℕ) (Q : ℕ → Type 0) → ((k : ℕ) → Known (Q k)) → Known ((k : ℕ) → k < n → Q k)
known_below zero Q known = inl (λ k less. absurd (omega arith))
known_below (suc n) Q known = by (known_below n Q known) (known n)
  where
    by : Known ((k : ℕ) → k < n → Q k) → Known (Q n) → Known ((k : ℕ) → k < suc n → Q k)
    by (inr fails) last = inr (λ all. fails (λ k less. all k (omega arith)))
    by (inl all) (inr fails) = inr (λ every. fails (every n (omega arith)))
    by (inl all) (inl last) = inl (λ k less.
        ⊎_elim (λ (lower : k < n). all k lower)
        (λ (past : n ≤ k). (let same : n ≡ k = omega arith in subst Q same last)) (cases_lt k n))

pub known_all : {X : Type 0} (Q : X → Type 0) → ((x : X) → Known (Q x)) → (xs : List X) → Known (AllByRecursion Q xs)
known_all Q known [] = inl tt
known_all Q known (x ∷ xs) = by (known x) (known_all Q known xs)
  where
    by : Known (Q x) → Known (AllByRecursion Q xs) → Known (AllByRecursion Q (x ∷ xs))
    by (inl here) (inl rest) = inl (here, rest)
    by (inr fails) rest = inr (λ all. fails all.0)
    by (inl here) (inr fails) = inr (λ all. fails all.1)

-- No choice of a history receives from a process beyond a bound.

source_bound : Option ℕ → ℕ
source_bound None = 0
source_bound (Some q) = suc q

not_source : (i : ℕ) (o : Option ℕ) → source_bound o ≤ i → is_process i o ≡ false
unfolding source_bound
not_source i None less = refl
not_source i (Some q) less = grind (arith, less)

row_bound : Program → ℕ → List ℕ → ℕ
row_bound P j [] = 0
row_bound P j (k ∷ choices) = source_bound (source_in (command_of P j k)) + row_bound P j choices

history_bound : Program → ℕ → History → ℕ
history_bound P j [] = 0
history_bound P j (choices ∷ H) = row_bound P j choices + history_bound P (j + 1) H

none_in_row : (P : Program) (j i : ℕ) (choices : List ℕ) (n : ℕ) → row_bound P j choices ≤ i
    → count_by (receives_from P j i) (take n choices) ≡ 0
unfolding row_bound
none_in_row P j i [] n less = ap (count_by (receives_from P j i)) (take-nil n)
none_in_row P j i (k ∷ choices) zero less = refl
none_in_row P j i (k ∷ choices) (suc n) less =
    let first = not_source i (source_in (command_of P j k)) (omega (arith, less)) in
    let rest = none_in_row P j i choices n (omega (arith, less)) in
    let here : ℕ = cond (receives_from P j i k) 1 0 in
    let counted : count_by (receives_from P j i) (take (suc n) (k ∷ choices)) ≡ here + count_by (receives_from P j i) (take n choices) =
    sum_by-cons (λ (x : ℕ). cond (receives_from P j i x) 1 0) k (take n choices) in
    let none : here ≡ 0 = ap (λ (b : Bool). let n : ℕ = cond b 1 0 in n) first in
    omega (arith, counted, none, rest)

none_in : (P : Program) (at : ℕ) (H : History) (j i n : ℕ) → history_bound P at H ≤ i
    → count_by (receives_from P (at + j) i) (take n (get_or H j [])) ≡ 0
unfolding history_bound
none_in P at [] j i n less = ap (count_by (receives_from P (at + j) i)) (take-nil n)
none_in P at (choices ∷ H) zero i n less =
    let here : at ≡ at + 0 = omega arith in
    subst (λ (m : ℕ). count_by (receives_from P m i) (take n choices) ≡ 0) here
    (none_in_row P at i choices n (omega (arith, less)))
none_in P at (choices ∷ H) (suc j) i n less =
    let there : at + 1 + j ≡ at + suc j = omega arith in
    subst (λ (m : ℕ). count_by (receives_from P m i) (take n (get_or H j [])) ≡ 0) there
    (none_in P (at + 1) H j i n (omega (arith, less)))

-- Deciding whether a cut is consistent.

module _ (P : Program) (H : History) where
  none_got : (i j n : ℕ) → history_bound P 0 H ≤ i → got P H j i n ≡ 0
  none_got i j n less =
      let own : 0 + j ≡ j = omega arith in
      subst (λ (m : ℕ). count_by (receives_from P m i) (take n (get_or H j [])) ≡ 0) own (none_in P 0 H j i n less)

  none_past : (i j n : ℕ) → length H ≤ j → got P H j i n ≡ 0
  none_past i j n past =
      ap (λ (choices : List ℕ). count_by (receives_from P j i) (take n choices)) (get_or_past H j [] past)
      ∙ ap (count_by (receives_from P j i)) (take-nil n)

  -- what is received was sent, for all pairs within the bounds
  abbrev Causes : List ℕ → Type 0
  Causes cut =
      (i : ℕ) → i < history_bound P 0 H → (j : ℕ) → j < length H → i ≢ j
      → got P H j i (get_or cut j 0) ≤ sent P H i j (get_or cut i 0)

  known_causes : (cut : List ℕ) → Known (Causes cut)
  known_causes cut =
      known_below (history_bound P 0 H)
      (λ i. (j : ℕ) → j < length H → i ≢ j → got P H j i (get_or cut j 0) ≤ sent P H i j (get_or cut i 0))
      (λ i. known_below (length H) (λ j. i ≢ j → got P H j i (get_or cut j 0) ≤ sent P H i j (get_or cut i 0))
      (λ j. known_unless (i ≡ j) (got P H j i (get_or cut j 0) ≤ sent P H i j (get_or cut i 0)) (known_same i j)
      (known_le (got P H j i (get_or cut j 0)) (sent P H i j (get_or cut i 0)))))

  all_causes : (cut : List ℕ) → Causes cut → (i j : ℕ) → i ≢ j → got P H j i (get_or cut j 0) ≤ sent P H i j (get_or cut i 0)
  all_causes cut causes i j apart =
      ⊎_elim
      (λ (near : i < history_bound P 0 H).
      ⊎_elim (λ (here : j < length H). causes i near j here apart)
      (λ (past : length H ≤ j). (let none = none_past i j (get_or cut j 0) past in omega (arith, none))) (cases_lt j (length H)))
      (λ (far : history_bound P 0 H ≤ i). (let none = none_got i j (get_or cut j 0) far in omega (arith, none)))
      (cases_lt i (history_bound P 0 H))

  pub known_consistent : (cut : List ℕ) → Known (IsConsistent P H cut)
  known_consistent cut =
      by (known_same (length cut) (length H))
      (known_below (length H) (λ p. get_or cut p 0 ≤ length (get_or H p []))
      (λ p. known_le (get_or cut p 0) (length (get_or H p [])))) (known_causes cut)
    where
      by : Known (length cut ≡ length H) → Known ((p : ℕ) → p < length H → get_or cut p 0 ≤ length (get_or H p [])) → Known (Causes cut)
          → Known (IsConsistent P H cut)
      by (inr fails) within causes = inr (λ is. fails is.sizes)
      by (inl sizes) (inr fails) causes = inr (λ is. fails (λ p here. is.within p))
      by (inl sizes) (inl within) (inr fails) = inr (λ is. fails (λ i near j here apart. is.causes i j apart))
      by (inl sizes) (inl within) (inl causes) = inl (record {
        sizes = sizes;
        within = λ p.
            ⊎_elim (λ (here : p < length H). within p here)
            (λ (past : length H ≤ p). (let none = get_or_past cut p 0 (omega (arith, sizes)) in omega (arith, none)))
            (cases_lt p (length H));
        causes = all_causes cut causes;
      })

  pub known_satisfies : (conjuncts : List Conjunct) (cut : List ℕ) → Known (Satisfies P H conjuncts cut)
  known_satisfies conjuncts cut =
      by (known_consistent cut)
      (known_all (λ conjunct. is_true P H conjunct (get_or cut conjunct.process 0) ≡ true)
      (λ conjunct. known_true (is_true P H conjunct (get_or cut conjunct.process 0))) conjuncts)
    where
      by : Known (IsConsistent P H cut)
          → Known (AllByRecursion (λ conjunct. is_true P H conjunct (get_or cut conjunct.process 0) ≡ true) conjuncts)
          → Known (Satisfies P H conjuncts cut)
      by (inr fails) all = inr (λ is. fails is.consistent)
      by (inl consistent) (inr fails) = inr (λ is. fails is.all)
      by (inl consistent) (inl all) = inl (record { consistent = consistent; all = all })
