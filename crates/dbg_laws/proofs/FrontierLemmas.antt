-- Each list of conjuncts has a frontier: whether a tuple is settled is decided, the lesser counts of two settled tuples are settled, and the
-- tuple of the bounds is settled.
use Rattle.std.proofs.Common.{◌≡◌, inl, inr, ⊎_elim, ℕ, zero, suc, ◌+◌, ◌<◌, ◌≤◌, min, true, List, [], ◌∷◌, length, map, get_or}
use Rattle.std.proofs.Common.{refl, sym, ap, ◌∙◌, subst, arith}
use Rattle.std.specs.List.{AllByRecursion}
use Rattle.std.proofs.lemmas.Bool.{cases_lt}
use Rattle.std.proofs.lemmas.List.{get_or_past, length-map}
use Rattle.dbg_base.specs.Trees.{Program}
use Rattle.dbg_base.specs.Histories.{History}
use Rattle.dbg_base.specs.Cuts.{IsAtMost}
use Rattle.dbg_base.specs.Clocks.{IsClock}
use Rattle.dbg_base.specs.Predicates.{Conjunct, is_true}
use Rattle.dbg_base.specs.Frontiers.{choices_at, IsSettled, IsFrontier}
use Rattle.dbg_laws.proofs.BestListLemmas.{Fits, best}
use Rattle.dbg_laws.proofs.CutDecisionLemmas.{Known, known_le, known_same, known_true, known_below, known_all}
use Rattle.dbg_laws.proofs.CutLatticeLemmas.{paired_size, lesser, lesser_at}
use Rattle.dbg_laws.proofs.OneAnswer.{one_clock}

-- one past the choices of each process
abbrev tops : History → List ℕ
tops H = map (λ (choices : List ℕ). length choices + 1) H

tops_at : (H : History) (p : ℕ) → get_or (tops H) p 0 ≤ length (get_or H p []) + 1
tops_at [] p = omega arith
tops_at (choices ∷ H) zero = omega arith
tops_at (choices ∷ H) (suc p) = tops_at H p

tops_there : (H : History) (p : ℕ) → p < length H → get_or (tops H) p 0 ≡ length (get_or H p []) + 1
tops_there [] p here = absurd (omega (arith, here))
tops_there (choices ∷ H) zero here = refl
tops_there (choices ∷ H) (suc p) here = tops_there H p (omega (arith, here))

fits : (H : History) (v : List ℕ) → length v ≡ length H → ((p : ℕ) → get_or v p 0 ≤ length (get_or H p []) + 1) → Fits (tops H) v
fits [] [] size within = tt
fits [] (n ∷ v) size within = absurd (omega (arith, size))
fits (choices ∷ H) [] size within = absurd (omega (arith, size))
fits (choices ∷ H) (n ∷ v) size within = (within 0, fits H v (omega (arith, size)) (λ p. within (suc p)))

known_if : (A B : Type 0) → Known A → Known B → Known (A → B)
known_if A B (inl a) (inl b) = inl (λ x. b)
known_if A B (inl a) (inr fails) = inr (λ f. fails (f a))
known_if A B (inr fails) known = inl (λ a. absurd (fails a))

-- Let each process have a clock at each of its choices.
module _ (P : Program) (H : History) (clock : (q n : ℕ) → n ≤ choices_at H q → (cut : List ℕ) × IsClock P H q n cut)
    (conjuncts : List Conjunct) where
  below : (t : List ℕ) (q : ℕ) → min (get_or t q 0) (choices_at H q) ≤ choices_at H q
  below t q = omega arith

  -- the clock of process q in a tuple
  clock_in : (t : List ℕ) (q : ℕ) → (cut : List ℕ) × IsClock P H q (min (get_or t q 0) (choices_at H q)) cut
  clock_in t q = clock q (min (get_or t q 0) (choices_at H q)) (below t q)

  known_at_most : (c t : List ℕ) → length c ≡ length H → Known (IsAtMost c t)
  known_at_most c t size = by (known_below (length H) (λ p. get_or c p 0 ≤ get_or t p 0) (λ p. known_le (get_or c p 0) (get_or t p 0)))
    where
      by : Known ((p : ℕ) → p < length H → get_or c p 0 ≤ get_or t p 0) → Known (IsAtMost c t)
      by (inl all) = inl (λ p. ⊎_elim (λ (here : p < length H). all p here)
          (λ (past : length H ≤ p). (let none = get_or_past c p 0 (omega (arith, size, past)) in omega (arith, none))) (cases_lt p (length H)))
      by (inr fails) = inr (λ all. fails (λ p here. all p))

  -- a tuple is at least the clocks at its components
  abbrev Covers : List ℕ → Type 0
  Covers t = (q : ℕ) → q < length H → IsAtMost (clock_in t q).0 t

  abbrev Within : List ℕ → Type 0
  Within t = (p : ℕ) → p < length H → get_or t p 0 ≤ choices_at H p + 1

  abbrev AllTrue : List ℕ → Type 0
  AllTrue t = AllByRecursion
      (λ conjunct. get_or t conjunct.process 0 ≤ choices_at H conjunct.process → is_true P H conjunct (get_or t conjunct.process 0) ≡ true)
      conjuncts

  settles : (t : List ℕ) → length t ≡ length H → Within t → AllTrue t → Covers t → IsSettled P H conjuncts t
  settles t size within all covers = record {
    sizes = size;
    within = λ p. ⊎_elim (λ (here : p < length H). within p here)
        (λ (past : length H ≤ p). (let none = get_or_past t p 0 (omega (arith, size, past)) in omega (arith, none))) (cases_lt p (length H));
    all = all;
    clocks = λ q cut here is.
        subst (λ (c : List ℕ). IsAtMost c t)
        (one_clock P H q (min (get_or t q 0) (choices_at H q)) (clock_in t q).0 cut (clock_in t q).1 is) (covers q here);
  }

  known_settled : (t : List ℕ) → Known (IsSettled P H conjuncts t)
  known_settled t =
      by (known_same (length t) (length H))
      (known_below (length H) (λ p. get_or t p 0 ≤ choices_at H p + 1) (λ p. known_le (get_or t p 0) (choices_at H p + 1)))
      (known_all
      (λ conjunct. get_or t conjunct.process 0 ≤ choices_at H conjunct.process → is_true P H conjunct (get_or t conjunct.process 0) ≡ true)
      (λ conjunct. known_if (get_or t conjunct.process 0 ≤ choices_at H conjunct.process)
      (is_true P H conjunct (get_or t conjunct.process 0) ≡ true)
      (known_le (get_or t conjunct.process 0) (choices_at H conjunct.process))
      (known_true (is_true P H conjunct (get_or t conjunct.process 0)))) conjuncts)
      (known_below (length H) (λ q. IsAtMost (clock_in t q).0 t)
      (λ q. known_at_most (clock_in t q).0 t (clock_in t q).1.consistent.sizes))
    where
      by : Known (length t ≡ length H) → Known (Within t) → Known (AllTrue t) → Known (Covers t) → Known (IsSettled P H conjuncts t)
      by (inr fails) within all covers = inr (λ is. fails is.sizes)
      by (inl size) (inr fails) all covers = inr (λ is. fails (λ p here. is.within p))
      by (inl size) (inl within) (inr fails) covers = inr (λ is. fails is.all)
      by (inl size) (inl within) (inl all) (inr fails) =
          inr (λ is. fails (λ q here. is.clocks q (clock_in t q).0 here (clock_in t q).1))
      by (inl size) (inl within) (inl all) (inl covers) = inl (settles t size within all covers)

  -- the lesser of two
  module _ (t u : List ℕ) (one : IsSettled P H conjuncts t) (other : IsSettled P H conjuncts u) where
    sizes : length t ≡ length u
    sizes = one.sizes ∙ sym other.sizes

    lesser_true : (some : List Conjunct)
        → AllByRecursion
        (λ conjunct. get_or t conjunct.process 0 ≤ choices_at H conjunct.process → is_true P H conjunct (get_or t conjunct.process 0) ≡ true)
        some
        → AllByRecursion
        (λ conjunct. get_or u conjunct.process 0 ≤ choices_at H conjunct.process → is_true P H conjunct (get_or u conjunct.process 0) ≡ true)
        some
        → AllByRecursion
        (λ conjunct. get_or (lesser t u) conjunct.process 0 ≤ choices_at H conjunct.process
        → is_true P H conjunct (get_or (lesser t u) conjunct.process 0) ≡ true) some
    lesser_true [] first second = tt
    lesser_true (conjunct ∷ some) first second =
        let p : ℕ = conjunct.process in
        let e = lesser_at t u p sizes in (
          λ few. ⊎_elim
              (λ (less : get_or t p 0 < get_or u p 0).
              let same : get_or (lesser t u) p 0 ≡ get_or t p 0 = omega (arith, e, less) in
              ap (λ (n : ℕ). is_true P H conjunct n) same ∙ first.0 (omega (arith, few, same)))
              (λ (le : get_or u p 0 ≤ get_or t p 0).
              let same : get_or (lesser t u) p 0 ≡ get_or u p 0 = omega (arith, e, le) in
              ap (λ (n : ℕ). is_true P H conjunct n) same ∙ second.0 (omega (arith, few, same)))
              (cases_lt (get_or t p 0) (get_or u p 0)),
          lesser_true some first.1 second.1,
        )

    -- the clock at a lesser count is at most that at a greater one
    covered : (s : List ℕ) → IsSettled P H conjuncts s → (q : ℕ) → q < length H → get_or (lesser t u) q 0 ≤ get_or s q 0
        → IsAtMost (clock_in (lesser t u) q).0 s
    covered s is q here few p =
        let c = clock_in (lesser t u) q in
        let d = clock_in s q in
        let reaches = d.1.reaches in
        let a = c.1.least d.0 d.1.consistent (omega (arith, reaches, few)) p in
        let b = is.clocks q d.0 here d.1 p in
        omega (arith, a, b)

    lesser_settled : IsSettled P H conjuncts (lesser t u)
    lesser_settled =
        settles (lesser t u) (paired_size min t u sizes ∙ one.sizes)
        (λ p here. (let e = lesser_at t u p sizes in let w = one.within p in omega (arith, e, w)))
        (lesser_true conjuncts one.all other.all)
        (λ q here p.
        let e = lesser_at t u q sizes in
        let a = covered t one q here (omega (arith, e)) p in
        let b = covered u other q here (omega (arith, e)) p in
        let f = lesser_at t u p sizes in
        omega (arith, a, b, f))

  -- the tuple of the bounds is settled, if each conjunct is of a process that exists
  none_judged : (some : List Conjunct) → AllByRecursion (λ conjunct. conjunct.process < length H) some
      → AllByRecursion
      (λ conjunct. get_or (tops H) conjunct.process 0 ≤ choices_at H conjunct.process
      → is_true P H conjunct (get_or (tops H) conjunct.process 0) ≡ true) some
  none_judged [] there = tt
  none_judged (conjunct ∷ some) there =
      (λ few. absurd (let e = tops_there H conjunct.process there.0 in omega (arith, e, few)), none_judged some there.1)

  tops_settled : AllByRecursion (λ conjunct. conjunct.process < length H) conjuncts → IsSettled P H conjuncts (tops H)
  tops_settled there =
      settles (tops H) (length-map H (λ (choices : List ℕ). length choices + 1))
      (λ p here. tops_at H p)
      (none_judged conjuncts there)
      (λ q here p.
      let c = clock_in (tops H) q in
      let within = c.1.consistent.within p in
      ⊎_elim
      (λ (inside : p < length H). (let e = tops_there H p inside in omega (arith, e, within)))
      (λ (past : length H ≤ p).
      let size = c.1.consistent.sizes in
      let none = get_or_past c.0 p 0 (omega (arith, size, past)) in omega (arith, none))
      (cases_lt p (length H)))

  least_settled : (top : List ℕ) → IsSettled P H conjuncts top → (tuple : List ℕ) × IsFrontier P H conjuncts tuple
  least_settled top is =
      ⊎_elim
      (λ (found : (u : List ℕ) × IsSettled P H conjuncts u × ((w : List ℕ) → IsSettled P H conjuncts w → IsAtMost u w)).
      (found.0, record { settled = found.1; least = found.2 }))
      (λ (none : (w : List ℕ) → ¬ IsSettled P H conjuncts w). absurd (none top is))
      (best (IsSettled P H conjuncts) known_settled IsAtMost (λ v p. omega arith)
      (λ u v w first second p. (let a = first p in let b = second p in omega (arith, a, b)))
      (λ t u one other. (
        lesser t u,
        lesser_settled t u one other,
        λ p. (let e = lesser_at t u p (one.sizes ∙ sym other.sizes) in omega (arith, e)),
        λ p. (let e = lesser_at t u p (one.sizes ∙ sym other.sizes) in omega (arith, e)),
      )) (tops H) (λ v good. fits H v good.sizes good.within))

  pub frontier_there : AllByRecursion (λ conjunct. conjunct.process < length H) conjuncts
      → (tuple : List ℕ) × IsFrontier P H conjuncts tuple
  frontier_there there = least_settled (tops H) (tops_settled there)
