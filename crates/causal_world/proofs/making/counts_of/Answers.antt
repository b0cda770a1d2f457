use Rattle.std.proofs.Common.{◌≡◌, ◌≢◌, ℕ, List, ◌+◌, ◌<◌, ◌≤◌, length, get_or, set, arith, ap, ◌∙◌, sym, subst}
use Rattle.std.proofs.Common.{⊎_elim, Vec, Global}
use Rattle.std.proofs.lemmas.Bool.{cases_eq}
use Rattle.std.proofs.lemmas.List.{length-set, get_or-set_same, get_or-set_other, get_or_default}
use Rattle.causal_world.proofs.Inverses.{counted_next}
use Rattle.causal_world.proofs.making.counts_of.Goals as goal
use Rattle.causal_world.proofs.making.counts_of.Goals.{then-p-len, else-p-len}

-- the count at p is one more, if there is one
record OneMore (old new : List ℕ) (p : ℕ) : Type 0 where
  len : length new ≡ length old
  own : p < length old → get_or new p 0 ≡ get_or old p 0 + 1
  other : (q : ℕ) → q ≢ p → get_or new q 0 ≡ get_or old q 0
  few : (q : ℕ) → get_or new q 0 ≤ get_or old q 0 + 1

one_more : (old new : List ℕ) (p n : ℕ) → p < length old → n ≡ get_or old p n → new ≡ set old p (n + 1) → OneMore old new p
one_more old new p n here value is =
    let own : get_or new p 0 ≡ get_or old p 0 + 1 =
    ap (λ (l : List ℕ). get_or l p 0) is ∙ get_or-set_same old p (n + 1) 0 here ∙ ap (λ (m : ℕ). m + 1) (value ∙ get_or_default old p n 0 here) in
    let other : (q : ℕ) → q ≢ p → get_or new q 0 ≡ get_or old q 0 =
    λ q apart. ap (λ (l : List ℕ). get_or l q 0) is ∙ get_or-set_other old p q (n + 1) 0 apart in
    record {
      len = ap (λ (l : List ℕ). length l) is ∙ length-set old p (n + 1);
      own = λ _. own;
      other = other;
      few = λ q.
          ⊎_elim
          (λ (same : q ≡ p). subst (λ (x : ℕ). get_or new x 0 ≤ get_or old x 0 + 1) (sym same) (omega (arith, own)))
          (λ (apart : q ≢ p). let kept = other q apart in omega (arith, kept))
          (cases_eq q p);
    }

none_more : (old new : List ℕ) (p : ℕ) → length old ≤ p → new ≡ old → OneMore old new p
none_more old new p beyond is =
    record {
      len = ap (λ (l : List ℕ). length l) is;
      own = λ here. absurd (omega (arith, here, beyond));
      other = λ q apart. ap (λ (l : List ℕ). get_or l q 0) is;
      few = λ q. let kept = ap (λ (l : List ℕ). get_or l q 0) is in omega (arith, kept);
    }

pub loop-one-preserved : goal.loop-one-preserved
loop-one-preserved c =
    let t = c.one-item.result in
    let old = c.loop-one.counts.items in
    let new = c.if-p-len.counts.items in
    let p : ℕ = t.pid.0 in
    let k : ℕ = c.loop-one.one-index in
    let step : OneMore old new p =
    elim c.if-p-len.branch [
      | then-p-len w ↦
          one_more old new p w.index_mut.result.now (omega (arith, w.if-p-len.true, c.len.ensures, c.loop-one.counts.ok.0))
          w.index_mut.ensures.value (ap (λ (v : Vec ℕ Global). v.items) w.counts-is)
      | else-p-len w ↦
          none_more old new p (omega (arith, w.if-p-len.false, c.len.ensures, c.loop-one.counts.ok.0))
          (ap (λ (v : Vec ℕ Global). v.items) w.counts-is)
    ] in
    record {
      len = step.len ∙ c.loop-one.invariant.len;
      each = λ q here.
          let counted = counted_next c.args.taken.now k t q c.loop-one-test.true c.one-item.is in
          let before = c.loop-one.invariant.each q here in
          ⊎_elim
          (λ (same : q ≡ p).
          subst (λ (x : ℕ). get_or new x 0 ≡ get_or old x 0 + 1) (sym same) (step.own (omega (arith, same, here, c.loop-one.invariant.len)))
          ∙ ap (λ (n : ℕ). n + 1) before ∙ sym (counted.own (sym same)))
          (λ (apart : q ≢ p). step.other q apart ∙ before ∙ sym (counted.other (λ x. apart (sym x))))
          (cases_eq q p);
      few = λ q. (let before = c.loop-one.invariant.few q in let more = step.few q in omega (arith, before, more));
    }
