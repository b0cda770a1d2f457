-- One step that lowers a cut.
use Rattle.std.proofs.Common.{◌≡◌, ℕ, ◌+◌, ◌-◌, ◌<◌, ◌≤◌, true, List, [], length, get_or, set, sum, ◌∙◌, arith}
use Rattle.std.proofs.lemmas.List.{length-set}
use Rattle.cut_core.specs.declared.kind.Kind.{Kind}
use Rattle.cut_core.specs.Kinds.{gets_from}
use Rattle.cut_core.specs.Tallies.{sent_by, got_by}
use Rattle.dbg_base.specs.Cuts.{IsAtMost}
use Rattle.cut_core.specs.ConsistentCuts.{HasOrphan, IsWithin, IsLowered}
use Rattle.cut_core.proofs.CountLemmas.{count_before}
use Rattle.cut_core.proofs.CutBoundLemmas.{receiver_there, lowered_keeps, lowered_less, sum_changes, less_at}

-- event n of process j is the first that receives a message from process i without a send
module _ (kinds : List (List Kind)) (counts : List ℕ) (i j n : ℕ) (d : Kind) (orphan : HasOrphan kinds counts i j)
    (within : IsWithin kinds counts) (first : 1 ≤ n) (inside : n ≤ length (get_or kinds j []))
    (like : gets_from i (get_or (get_or kinds j []) (n - 1) d) ≡ true)
    (count : got_by kinds j i n ≡ sent_by kinds i j (get_or counts i 0) + 1) where
  there : j < length counts
  there = let lt : j < length kinds = receiver_there kinds counts i j orphan in omega (arith, within.0)

  less : n - 1 < get_or counts j 0
  less = lowered_less kinds counts i j n orphan there count (count_before (gets_from i) (get_or kinds j []) n d first inside like)

  pub lowered_sum : sum (set counts j (n - 1)) < sum counts
  lowered_sum =
      let change : sum (set counts j (n - 1)) + get_or counts j 0 ≡ sum counts + (n - 1) = sum_changes counts j (n - 1) there in
      let lt : n - 1 < get_or counts j 0 = less in
      omega arith

  lowered_below : IsAtMost (set counts j (n - 1)) counts
  lowered_below = less_at counts j (n - 1) there (omega (arith, less))

  pub lowered_by : IsLowered kinds counts (set counts j (n - 1))
  lowered_by = record {
    within = (length-set counts j (n - 1) ∙ within.0, λ p. let a = lowered_below p in let b = within.1 p in omega arith);
    below = lowered_below;
    greatest = lowered_keeps kinds counts i j n orphan there count;
  }

module _ (kinds : List (List Kind)) where
  pub lowered_none : (counts : List ℕ) → IsWithin kinds counts → IsLowered kinds counts counts
  lowered_none counts within = record { within = within; below = λ p. omega arith; greatest = λ c consistent below. below }

  pub lowered_more : (before counts after : List ℕ) → IsLowered kinds before counts → IsLowered kinds counts after
      → IsLowered kinds before after
  lowered_more before counts after one two = record {
    within = two.within;
    below = λ p. let a = one.below p in let b = two.below p in omega arith;
    greatest = λ c consistent below. two.greatest c consistent (one.greatest c consistent below);
  }
