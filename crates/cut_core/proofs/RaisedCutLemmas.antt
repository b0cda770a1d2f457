-- One step that raises a cut.
use Rattle.std.proofs.Common.{◌≡◌, inl, inr, ℕ, zero, suc, ◌+◌, ◌-◌, ◌<◌, ◌≤◌, true, List, [], ◌∷◌, length, get_or, set, sum}
use Rattle.std.proofs.Common.{refl, sym, ap, subst, ◌∙◌, arith}
use Rattle.std.proofs.lemmas.Bool.{cases_lt, cases_eq}
use Rattle.std.proofs.lemmas.List.{length-set, get_or-set_same, get_or-set_other}
use Rattle.std.proofs.lemmas.List.Sums.{sum_by-cons}
use Rattle.cut_core.specs.declared.kind.Kind.{Kind}
use Rattle.cut_core.specs.Kinds.{sends_to, gets_from}
use Rattle.cut_core.specs.Tallies.{sent_by, got_by}
use Rattle.dbg_base.specs.Cuts.{IsAtMost}
use Rattle.cut_core.specs.ConsistentCuts.{HasOrphan, IsConsistentCut, IsWithin, places}
use Rattle.dbg_base.proofs.CountLemmas.{count_grows}
use Rattle.cut_core.proofs.CountLemmas.{count_before}
use Rattle.cut_core.proofs.CutBoundLemmas.{none_sent, raised_keeps, raised_more, sum_changes, more_at}

-- the cut of all events, at one process
pub place_at : (kinds : List (List Kind)) (p : ℕ) → get_or (places kinds) p 0 ≡ length (get_or kinds p [])
place_at [] p = refl
place_at (history ∷ kinds) zero = refl
place_at (history ∷ kinds) (suc p) = place_at kinds p

-- no cut has more events than there are
pub sum_within : (kinds : List (List Kind)) (counts : List ℕ) → length counts ≡ length kinds
    → ((p : ℕ) → get_or counts p 0 ≤ length (get_or kinds p [])) → sum counts ≤ sum (places kinds)
sum_within kinds [] sizes within = omega arith
sum_within [] (n ∷ counts) sizes within = absurd (omega (arith, sizes))
sum_within (history ∷ kinds) (n ∷ counts) sizes within =
    let head : n ≤ length history = within 0 in
    let rest : sum counts ≤ sum (places kinds) = sum_within kinds counts (omega (arith, sizes)) (λ p. within (suc p)) in
    let counted : sum (n ∷ counts) ≡ n + sum counts = sum_by-cons (λ x. x) n counts in
    let placed : sum (places (history ∷ kinds)) ≡ length history + sum (places kinds) =
    sum_by-cons (λ x. x) (length history) (places kinds) in
    omega arith

module _ (kinds : List (List Kind)) (counts : List ℕ) (i j : ℕ) (orphan : HasOrphan kinds counts i j)
    (within : IsWithin kinds counts) (all : IsConsistentCut kinds (places kinds)) where
  -- what was received was sent
  pub sent_enough : got_by kinds j i (get_or counts j 0) ≤ sent_by kinds i j (length (get_or kinds i []))
  sent_enough =
      let grows : got_by kinds j i (get_or counts j 0) ≤ got_by kinds j i (length (get_or kinds j [])) =
      count_grows (gets_from i) (get_or kinds j []) (get_or counts j 0) (length (get_or kinds j [])) (within.1 j) in
      let caused : got_by kinds j i (get_or (places kinds) j 0) ≤ sent_by kinds i j (get_or (places kinds) i 0) = all.causes i j orphan.0 in
      let at_j : got_by kinds j i (get_or (places kinds) j 0) ≡ got_by kinds j i (length (get_or kinds j [])) =
      ap (λ n. got_by kinds j i n) (place_at kinds j) in
      let at_i : sent_by kinds i j (get_or (places kinds) i 0) ≡ sent_by kinds i j (length (get_or kinds i [])) =
      ap (λ n. sent_by kinds i j n) (place_at kinds i) in
      omega arith

  pub sender_there : i < length kinds
  sender_there = elim (cases_lt i (length kinds)) [
    | inl lt ↦ lt
    | inr le ↦
        let none : sent_by kinds i j (length (get_or kinds i [])) ≡ 0 = none_sent kinds i j (length (get_or kinds i [])) le in
        let enough : got_by kinds j i (get_or counts j 0) ≤ sent_by kinds i j (length (get_or kinds i [])) = sent_enough in
        let lt : sent_by kinds i j (get_or counts i 0) < got_by kinds j i (get_or counts j 0) = orphan.1 in
        absurd (omega arith)
  ]

  -- event n of process i sends the last message that was received
  module _ (n : ℕ) (d : Kind) (first : 1 ≤ n) (inside : n ≤ length (get_or kinds i []))
      (like : sends_to j (get_or (get_or kinds i []) (n - 1) d) ≡ true)
      (count : sent_by kinds i j n ≡ got_by kinds j i (get_or counts j 0)) where
    there : i < length counts
    there = let lt : i < length kinds = sender_there in omega (arith, within.0)

    before : sent_by kinds i j n ≡ sent_by kinds i j (n - 1) + 1
    before = count_before (sends_to j) (get_or kinds i []) n d first inside like

    more : get_or counts i 0 < n
    more = raised_more kinds counts i j n orphan there count before

    pub raised_above : IsAtMost counts (set counts i n)
    raised_above = more_at counts i n there (omega (arith, more))

    pub raised_within : IsWithin kinds (set counts i n)
    raised_within = (
      length-set counts i n ∙ within.0,
      λ p. elim (cases_eq p i) [
        | inl e ↦
            let new : get_or (set counts i n) i 0 ≡ n = get_or-set_same counts i n 0 there in
            let le : get_or (set counts i n) i 0 ≤ length (get_or kinds i []) = omega arith in
            subst (λ q. get_or (set counts i n) q 0 ≤ length (get_or kinds q [])) (sym e) le
        | inr ne ↦
            let same : get_or (set counts i n) p 0 ≡ get_or counts p 0 = get_or-set_other counts i p n 0 ne in
            let old : get_or counts p 0 ≤ length (get_or kinds p []) = within.1 p in
            omega arith
      ],
    )

    pub raised_sum : sum (places kinds) - sum (set counts i n) < sum (places kinds) - sum counts
    raised_sum =
        let change : sum (set counts i n) + get_or counts i 0 ≡ sum counts + n = sum_changes counts i n there in
        let lt : get_or counts i 0 < n = more in
        let le : sum (set counts i n) ≤ sum (places kinds) = sum_within kinds (set counts i n) raised_within.0 raised_within.1 in
        omega arith

    pub raised_least : (start : List ℕ) → ((c : List ℕ) → IsConsistentCut kinds c → IsAtMost start c → IsAtMost counts c)
        → (c : List ℕ) → IsConsistentCut kinds c → IsAtMost start c → IsAtMost (set counts i n) c
    raised_least start old c consistent above =
        raised_keeps kinds counts i j n orphan there count before c consistent (old c consistent above)
