-- The least cut that satisfies conjuncts, if there is one, and the greatest consistent cut below a bound. The lesser counts of two
-- consistent cuts are a consistent cut, and so are the greater ones.
use Rattle.std.proofs.Common.{◌≡◌, ◌⊎◌, inl, inr, ⊎_elim, ℕ, zero, suc, ◌<◌, ◌≤◌, true, List, [], ◌∷◌, length, map, min, max}
use Rattle.std.proofs.Common.{get_or, replicate, refl, sym, ap, ◌∙◌, arith}
use Rattle.std.specs.List.{AllByRecursion}
use Rattle.std.proofs.lemmas.Bool.{cases_lt}
use Rattle.std.proofs.lemmas.List.{ext_get_or}
use Rattle.dbg_base.specs.Trees.{Program}
use Rattle.dbg_base.specs.Histories.{History}
use Rattle.dbg_base.specs.Counts.{receives_from, sends_to, sent, got}
use Rattle.dbg_base.specs.Cuts.{IsConsistent, IsAtMost}
use Rattle.dbg_base.specs.Predicates.{Conjunct, is_true, Satisfies, IsLeast, NoCut}
use Rattle.dbg_base.specs.Reversal.{IsRollback}
use Rattle.dbg_base.proofs.CountLemmas.{count_grows}
use Rattle.dbg_base.proofs.EliminationLemmas.{none_at}
use Rattle.dbg_laws.proofs.BestListLemmas.{Fits, best}
use Rattle.dbg_laws.proofs.UndoneCutLemmas.{nothing_consistent}
use Rattle.dbg_laws.proofs.CutDecisionLemmas.{Known, known_le, known_consistent, known_satisfies}

-- two cuts combined count by count
pub paired : (ℕ → ℕ → ℕ) → List ℕ → List ℕ → List ℕ
paired f [] w = []
paired f (n ∷ v) [] = []
paired f (n ∷ v) (m ∷ w) = f n m ∷ paired f v w

pub paired_size : (f : ℕ → ℕ → ℕ) (v w : List ℕ) → length v ≡ length w → length (paired f v w) ≡ length v
unfolding paired
paired_size f [] w same = refl
paired_size f (n ∷ v) [] same = sym same
paired_size f (n ∷ v) (m ∷ w) same = ap suc (paired_size f v w (omega (arith, same)))

paired_at : (f : ℕ → ℕ → ℕ) (v w : List ℕ) (p : ℕ) → f 0 0 ≡ 0 → length v ≡ length w
    → get_or (paired f v w) p 0 ≡ f (get_or v p 0) (get_or w p 0)
unfolding paired
paired_at f [] [] p none same = sym none
paired_at f [] (m ∷ w) p none same = absurd (omega (arith, same))
paired_at f (n ∷ v) [] p none same = absurd (omega (arith, same))
paired_at f (n ∷ v) (m ∷ w) zero none same = refl
paired_at f (n ∷ v) (m ∷ w) (suc p) none same = paired_at f v w p none (omega (arith, same))

abbrev pub lesser : List ℕ → List ℕ → List ℕ
lesser v w = paired min v w

abbrev pub greater : List ℕ → List ℕ → List ℕ
greater v w = paired max v w

pub lesser_at : (v w : List ℕ) (p : ℕ) → length v ≡ length w → get_or (lesser v w) p 0 ≡ min (get_or v p 0) (get_or w p 0)
lesser_at v w p same = paired_at min v w p refl same

pub greater_at : (v w : List ℕ) (p : ℕ) → length v ≡ length w → get_or (greater v w) p 0 ≡ max (get_or v p 0) (get_or w p 0)
greater_at v w p same = paired_at max v w p refl same

at_most_itself : (v : List ℕ) → IsAtMost v v
at_most_itself v p = omega arith

at_most_along : (u v w : List ℕ) → IsAtMost u v → IsAtMost v w → IsAtMost u w
at_most_along u v w first second p = let a = first p in let b = second p in omega (arith, a, b)

-- two cuts are equal if each is at most the other
pub same_cut : (c d : List ℕ) → length c ≡ length d → IsAtMost c d → IsAtMost d c → c ≡ d
same_cut c d size below above =
    ext_get_or 0 c d size (λ p here. (let a = below p in let b = above p in omega (arith, a, b)))

fits_bounds : (H : History) (v : List ℕ) → length v ≡ length H → ((p : ℕ) → get_or v p 0 ≤ length (get_or H p []))
    → Fits (map (λ (choices : List ℕ). length choices) H) v
fits_bounds [] [] size within = tt
fits_bounds [] (n ∷ v) size within = absurd (omega (arith, size))
fits_bounds (choices ∷ H) [] size within = absurd (omega (arith, size))
fits_bounds (choices ∷ H) (n ∷ v) size within = (within 0, fits_bounds H v (omega (arith, size)) (λ p. within (suc p)))

module _ (P : Program) (H : History) where
  got_grows : (j i m n : ℕ) → m ≤ n → got P H j i m ≤ got P H j i n
  got_grows j i m n le = count_grows (receives_from P j i) (get_or H j []) m n le

  sent_grows : (i j m n : ℕ) → m ≤ n → sent P H i j m ≤ sent P H i j n
  sent_grows i j m n le = count_grows (sends_to P i j) (get_or H i []) m n le

  module _ (c d : List ℕ) (one : IsConsistent P H c) (other : IsConsistent P H d) where
    sizes : length c ≡ length d
    sizes = one.sizes ∙ sym other.sizes

    lesser_consistent : IsConsistent P H (lesser c d)
    lesser_consistent = record {
      sizes = paired_size min c d sizes ∙ one.sizes;
      within = λ p. (let a = one.within p in let e = lesser_at c d p sizes in omega (arith, a, e));
      causes = λ i j apart.
          let ei = lesser_at c d i sizes in
          let ej = lesser_at c d j sizes in
          let a = one.causes i j apart in
          let b = other.causes i j apart in
          let ga = got_grows j i (get_or (lesser c d) j 0) (get_or c j 0) (omega (arith, ej)) in
          let gb = got_grows j i (get_or (lesser c d) j 0) (get_or d j 0) (omega (arith, ej)) in
          ⊎_elim
          (λ (less : get_or c i 0 < get_or d i 0).
          let same : get_or (lesser c d) i 0 ≡ get_or c i 0 = omega (arith, ei) in
          let s = ap (λ (n : ℕ). sent P H i j n) same in omega (arith, s, ga, a))
          (λ (le : get_or d i 0 ≤ get_or c i 0).
          let same : get_or (lesser c d) i 0 ≡ get_or d i 0 = omega (arith, ei) in
          let s = ap (λ (n : ℕ). sent P H i j n) same in omega (arith, s, gb, b))
          (cases_lt (get_or c i 0) (get_or d i 0));
    }

    greater_consistent : IsConsistent P H (greater c d)
    greater_consistent = record {
      sizes = paired_size max c d sizes ∙ one.sizes;
      within = λ p. (let a = one.within p in let b = other.within p in let e = greater_at c d p sizes in omega (arith, a, b, e));
      causes = λ i j apart.
          let ei = greater_at c d i sizes in
          let ej = greater_at c d j sizes in
          let a = one.causes i j apart in
          let b = other.causes i j apart in
          let sa = sent_grows i j (get_or c i 0) (get_or (greater c d) i 0) (omega (arith, ei)) in
          let sb = sent_grows i j (get_or d i 0) (get_or (greater c d) i 0) (omega (arith, ei)) in
          ⊎_elim
          (λ (less : get_or c j 0 < get_or d j 0).
          let same : get_or (greater c d) j 0 ≡ get_or d j 0 = omega (arith, ej) in
          let g = ap (λ (n : ℕ). got P H j i n) same in omega (arith, g, sb, b))
          (λ (le : get_or d j 0 ≤ get_or c j 0).
          let same : get_or (greater c d) j 0 ≡ get_or c j 0 = omega (arith, ej) in
          let g = ap (λ (n : ℕ). got P H j i n) same in omega (arith, g, sa, a))
          (cases_lt (get_or c j 0) (get_or d j 0));
    }

    -- a conjunct that is true at both cuts is true at the lesser count
    lesser_true : (conjuncts : List Conjunct)
        → AllByRecursion (λ conjunct. is_true P H conjunct (get_or c conjunct.process 0) ≡ true) conjuncts
        → AllByRecursion (λ conjunct. is_true P H conjunct (get_or d conjunct.process 0) ≡ true) conjuncts
        → AllByRecursion (λ conjunct. is_true P H conjunct (get_or (lesser c d) conjunct.process 0) ≡ true) conjuncts
    lesser_true [] first second = tt
    lesser_true (conjunct ∷ conjuncts) first second =
        let p : ℕ = conjunct.process in
        let e = lesser_at c d p sizes in (
          ⊎_elim
              (λ (less : get_or c p 0 < get_or d p 0).
              let same : get_or (lesser c d) p 0 ≡ get_or c p 0 = omega (arith, e) in
              ap (λ (n : ℕ). is_true P H conjunct n) same ∙ first.0)
              (λ (le : get_or d p 0 ≤ get_or c p 0).
              let same : get_or (lesser c d) p 0 ≡ get_or d p 0 = omega (arith, e) in
              ap (λ (n : ℕ). is_true P H conjunct n) same ∙ second.0)
              (cases_lt (get_or c p 0) (get_or d p 0)),
          lesser_true conjuncts first.1 second.1,
        )

  -- the least cut that satisfies conjuncts, or no cut does
  pub least_or_none : (conjuncts : List Conjunct) → ((cut : List ℕ) × IsLeast P H conjuncts cut) ⊎ NoCut P H conjuncts
  least_or_none conjuncts =
      ⊎_elim
      (λ (found : (u : List ℕ) × Satisfies P H conjuncts u × ((w : List ℕ) → Satisfies P H conjuncts w → IsAtMost u w)).
      inl (found.0, record { satisfies = found.1; least = found.2 }))
      (λ (none : (w : List ℕ) → ¬ Satisfies P H conjuncts w). inr none)
      (best (Satisfies P H conjuncts) (known_satisfies P H conjuncts) IsAtMost at_most_itself at_most_along
      (λ c d one other. (
        lesser c d,
        record {
          consistent = lesser_consistent c d one.consistent other.consistent;
          all = lesser_true c d one.consistent other.consistent conjuncts one.all other.all;
        },
        λ p. (let e = lesser_at c d p (one.consistent.sizes ∙ sym other.consistent.sizes) in omega (arith, e)),
        λ p. (let e = lesser_at c d p (one.consistent.sizes ∙ sym other.consistent.sizes) in omega (arith, e)),
      )) (map (λ (choices : List ℕ). length choices) H)
      (λ v is. fits_bounds H v is.consistent.sizes is.consistent.within))

  -- it is consistent and has at most n choices of process p
  abbrev IsBelow : ℕ → ℕ → List ℕ → Type 0
  IsBelow p n cut = IsConsistent P H cut × (get_or cut p 0 ≤ n)

  -- a rollback leads to some cut
  pub some_rollback : (p n : ℕ) → (cut : List ℕ) × IsRollback P H p n cut
  some_rollback p n =
      ⊎_elim
      (λ (found : (u : List ℕ) × IsBelow p n u × ((w : List ℕ) → IsBelow p n w → IsAtMost w u)). (
        found.0,
        record { consistent = found.1.0; below = found.1.1; greatest = λ other is less. found.2 other (is, less) },
      ))
      (λ (none : (w : List ℕ) → ¬ IsBelow p n w).
      absurd (none (replicate (length H) 0) (nothing_consistent P H, (let zero_there = none_at (length H) p in omega (arith, zero_there)))))
      (best (IsBelow p n) known (λ u w. IsAtMost w u) at_most_itself (λ u v w first second. at_most_along w v u second first)
      (λ c d one other. (
        greater c d,
        (
          greater_consistent c d one.0 other.0,
          let a = one.1 in let b = other.1 in
              (let e = greater_at c d p (one.0.sizes ∙ sym other.0.sizes) in omega (arith, e, a, b)),
        ),
        λ q. (let e = greater_at c d q (one.0.sizes ∙ sym other.0.sizes) in omega (arith, e)),
        λ q. (let e = greater_at c d q (one.0.sizes ∙ sym other.0.sizes) in omega (arith, e)),
      )) (map (λ (choices : List ℕ). length choices) H) (λ v is. fits_bounds H v is.0.sizes is.0.within))
    where
      known : (cut : List ℕ) → Known (IsBelow p n cut)
      known cut = by (known_consistent P H cut) (known_le (get_or cut p 0) n)
        where
          by : Known (IsConsistent P H cut) → Known (get_or cut p 0 ≤ n) → Known (IsBelow p n cut)
          by (inr fails) below = inr (λ is. fails is.0)
          by (inl consistent) (inr fails) = inr (λ is. fails is.1)
          by (inl consistent) (inl below) = inl (consistent, below)

  -- the cut of a rollback is determined, and so is the least cut
  pub one_rollback : (p n : ℕ) (c d : List ℕ) → IsRollback P H p n c → IsRollback P H p n d → c ≡ d
  one_rollback p n c d is other =
      same_cut c d (is.consistent.sizes ∙ sym other.consistent.sizes) (other.greatest c is.consistent is.below)
      (is.greatest d other.consistent other.below)

  pub one_least : (conjuncts : List Conjunct) (c d : List ℕ) → IsLeast P H conjuncts c → IsLeast P H conjuncts d → c ≡ d
  one_least conjuncts c d is other =
      same_cut c d (is.satisfies.consistent.sizes ∙ sym other.satisfies.consistent.sizes) (is.least d other.satisfies)
      (other.least c is.satisfies)
