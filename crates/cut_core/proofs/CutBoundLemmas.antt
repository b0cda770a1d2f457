-- Lowering and raising cuts.
use Rattle.std.proofs.Common.{◌≡◌, inl, inr, ℕ, ◌+◌, ◌-◌, ◌<◌, ◌≤◌, List, [], length, get_or, set, sum, take, sym, ap, subst, ◌∙◌, arith}
use Rattle.std.specs.List.{count_by}
use Rattle.std.proofs.lemmas.Bool.{cases_lt, cases_eq}
use Rattle.std.proofs.lemmas.List.{get_or-set_same, get_or-set_other, get_or_past}
use Rattle.std.proofs.lemmas.List.Sums.{sum_by-set}
use Rattle.cut_core.specs.declared.kind.Kind.{Kind}
use Rattle.cut_core.specs.Kinds.{sends_to, gets_from}
use Rattle.cut_core.specs.Tallies.{sent_by, got_by}
use Rattle.dbg_base.specs.Cuts.{IsAtMost}
use Rattle.cut_core.specs.ConsistentCuts.{HasOrphan, IsConsistentCut}
use Rattle.dbg_base.proofs.CountLemmas.{count_grows}
use Rattle.cut_core.proofs.CountLemmas.{count_below, count_none}

-- a process that does not exist sent nothing and received nothing
pub none_sent : (kinds : List (List Kind)) (i j n : ℕ) → length kinds ≤ i → sent_by kinds i j n ≡ 0
none_sent kinds i j n le =
    ap (λ (history : List Kind). count_by (sends_to j) (take n history)) (get_or_past kinds i [] le) ∙ count_none (sends_to j) n

pub none_got : (kinds : List (List Kind)) (j i n : ℕ) → length kinds ≤ j → got_by kinds j i n ≡ 0
none_got kinds j i n le =
    ap (λ (history : List Kind). count_by (gets_from i) (take n history)) (get_or_past kinds j [] le) ∙ count_none (gets_from i) n

module _ (kinds : List (List Kind)) (counts : List ℕ) where
  -- a process that received a message exists
  pub receiver_there : (i j : ℕ) → HasOrphan kinds counts i j → j < length kinds
  receiver_there i j orphan = elim (cases_lt j (length kinds)) [
    | inl lt ↦ lt
    | inr le ↦
        let none : got_by kinds j i (get_or counts j 0) ≡ 0 = none_got kinds j i (get_or counts j 0) le in
        let lt : sent_by kinds i j (get_or counts i 0) < got_by kinds j i (get_or counts j 0) = orphan.1 in
        absurd (omega arith)
  ]

  -- messages that were received from a process that does not exist
  pub orphan_from : (i j : ℕ) → j < length kinds → length kinds ≤ i → 0 < got_by kinds j i (get_or counts j 0)
      → HasOrphan kinds counts i j
  orphan_from i j there le some =
      let none : sent_by kinds i j (get_or counts i 0) ≡ 0 = none_sent kinds i j (get_or counts i 0) le in
      (λ e. omega arith, omega arith)

  pub orphan_below : (i j : ℕ) → HasOrphan kinds counts i j → got_by kinds j i (get_or counts j 0) ≡ 0 → ⊥
  orphan_below i j orphan none =
      let lt : sent_by kinds i j (get_or counts i 0) < got_by kinds j i (get_or counts j 0) = orphan.1 in
      omega arith

  -- process j goes back to before the first message without a send, which it received in its event n
  module _ (i j n : ℕ) (orphan : HasOrphan kinds counts i j) (there : j < length counts)
      (first : got_by kinds j i n ≡ sent_by kinds i j (get_or counts i 0) + 1) where
    pub lowered_keeps : (c : List ℕ) → IsConsistentCut kinds c → IsAtMost c counts → IsAtMost c (set counts j (n - 1))
    lowered_keeps c consistent below p = elim (cases_eq p j) [
      | inl e ↦
          let s : sent_by kinds i j (get_or c i 0) ≤ sent_by kinds i j (get_or counts i 0) =
          count_grows (sends_to j) (get_or kinds i []) (get_or c i 0) (get_or counts i 0) (below i) in
          let g : got_by kinds j i (get_or c j 0) ≤ sent_by kinds i j (get_or c i 0) = consistent.causes i j orphan.0 in
          let lt : get_or c j 0 < n = count_below (gets_from i) (get_or kinds j []) (get_or c j 0) n (omega arith) in
          let new : get_or (set counts j (n - 1)) j 0 ≡ n - 1 = get_or-set_same counts j (n - 1) 0 there in
          let le : get_or c j 0 ≤ get_or (set counts j (n - 1)) j 0 = omega arith in
          subst (λ q. get_or c q 0 ≤ get_or (set counts j (n - 1)) q 0) (sym e) le
      | inr ne ↦
          let same : get_or (set counts j (n - 1)) p 0 ≡ get_or counts p 0 = get_or-set_other counts j p (n - 1) 0 ne in
          let le : get_or c p 0 ≤ get_or counts p 0 = below p in
          omega arith
    ]

    pub lowered_less : got_by kinds j i n ≡ got_by kinds j i (n - 1) + 1 → n - 1 < get_or counts j 0
    lowered_less before =
        let lt : sent_by kinds i j (get_or counts i 0) < got_by kinds j i (get_or counts j 0) = orphan.1 in
        count_below (gets_from i) (get_or kinds j []) (n - 1) (get_or counts j 0) (omega arith)

  -- process i moves to its event n, which sends the last message that was received
  module _ (i j n : ℕ) (orphan : HasOrphan kinds counts i j) (there : i < length counts)
      (last : sent_by kinds i j n ≡ got_by kinds j i (get_or counts j 0))
      (before : sent_by kinds i j n ≡ sent_by kinds i j (n - 1) + 1) where
    pub raised_keeps : (c : List ℕ) → IsConsistentCut kinds c → IsAtMost counts c → IsAtMost (set counts i n) c
    raised_keeps c consistent above p = elim (cases_eq p i) [
      | inl e ↦
          let g : got_by kinds j i (get_or counts j 0) ≤ got_by kinds j i (get_or c j 0) =
          count_grows (gets_from i) (get_or kinds j []) (get_or counts j 0) (get_or c j 0) (above j) in
          let s : got_by kinds j i (get_or c j 0) ≤ sent_by kinds i j (get_or c i 0) = consistent.causes i j orphan.0 in
          let lt : n - 1 < get_or c i 0 = count_below (sends_to j) (get_or kinds i []) (n - 1) (get_or c i 0) (omega arith) in
          let new : get_or (set counts i n) i 0 ≡ n = get_or-set_same counts i n 0 there in
          let le : get_or (set counts i n) i 0 ≤ get_or c i 0 = omega arith in
          subst (λ q. get_or (set counts i n) q 0 ≤ get_or c q 0) (sym e) le
      | inr ne ↦
          let same : get_or (set counts i n) p 0 ≡ get_or counts p 0 = get_or-set_other counts i p n 0 ne in
          let le : get_or counts p 0 ≤ get_or c p 0 = above p in
          omega arith
    ]

    pub raised_more : get_or counts i 0 < n
    raised_more =
        let lt : sent_by kinds i j (get_or counts i 0) < got_by kinds j i (get_or counts j 0) = orphan.1 in
        count_below (sends_to j) (get_or kinds i []) (get_or counts i 0) n (omega arith)

-- one count is lowered or raised
module _ (counts : List ℕ) (j n : ℕ) (there : j < length counts) where
  pub sum_changes : sum (set counts j n) + get_or counts j 0 ≡ sum counts + n
  sum_changes = sum_by-set (λ x. x) counts j n 0 there

  pub less_at : n ≤ get_or counts j 0 → IsAtMost (set counts j n) counts
  less_at le p = elim (cases_eq p j) [
    | inl e ↦
        let new : get_or (set counts j n) j 0 ≡ n = get_or-set_same counts j n 0 there in
        let less : get_or (set counts j n) j 0 ≤ get_or counts j 0 = omega arith in
        subst (λ q. get_or (set counts j n) q 0 ≤ get_or counts q 0) (sym e) less
    | inr ne ↦ let same : get_or (set counts j n) p 0 ≡ get_or counts p 0 = get_or-set_other counts j p n 0 ne in omega arith
  ]

  pub more_at : get_or counts j 0 ≤ n → IsAtMost counts (set counts j n)
  more_at le p = elim (cases_eq p j) [
    | inl e ↦
        let new : get_or (set counts j n) j 0 ≡ n = get_or-set_same counts j n 0 there in
        let more : get_or counts j 0 ≤ get_or (set counts j n) j 0 = omega arith in
        subst (λ q. get_or counts q 0 ≤ get_or (set counts j n) q 0) (sym e) more
    | inr ne ↦ let same : get_or (set counts j n) p 0 ≡ get_or counts p 0 = get_or-set_other counts j p n 0 ne in omega arith
  ]
