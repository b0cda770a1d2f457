use Rattle.std.proofs.Common.{◌≡◌, inl, inr, ℕ, ◌<◌, List, sum, sym, ap, subst, ◌∙◌, arith}
use Rattle.std.proofs.lemmas.Bool.{cases_eq}
use Rattle.cut_core.specs.ConsistentCuts.{HasOrphan}
use Rattle.cut_core.proofs.LoweredCutLemmas.{lowered_more}
use Rattle.cut_core.proofs.tally.Tally.lower_each.Goals as goal
use Rattle.cut_core.proofs.tally.Tally.lower_each.Goals.{then-lower_at, else-lower_at}

pub loop-j-preserved : goal.loop-j-preserved
loop-j-preserved c =
    let kinds = c.args.self.now.kinds in
    let before = c.args.counts.now in
    let counts = c.loop-j.counts in
    let after = c.lower_at.new.counts in
    let kept = lowered_more kinds before counts after c.loop-j.invariant.kept c.lower_at.ensures.lowered in
    let most = c.loop-j.invariant.most in
    elim c.if-lower_at.branch [
      | then-lower_at w ↦
          let lt : sum after < sum counts = c.lower_at.ensures.less w.if-lower_at.true in
          record {
            kept = kept;
            most = omega (arith, lt, most);
            less = λ e. omega (arith, lt, most);
            none = λ e. absurd (let is = w.lowered-is in cc);
          }
      | else-lower_at w ↦
          let same : after ≡ counts = c.lower_at.ensures.same w.if-lower_at.false in
          let sums : sum after ≡ sum counts = ap sum same in
          record {
            kept = kept;
            most = omega (arith, sums, most);
            less = λ e. (let lt = c.loop-j.invariant.less (sym w.lowered-is ∙ e) in omega (arith, sums, lt));
            none = λ e i j within. elim (cases_eq j c.loop-j.j) [
              | inl here ↦ subst (λ (q : ℕ). ¬ HasOrphan kinds after i q) (sym here) (c.lower_at.ensures.none i)
              | inr apart ↦ subst (λ (l : List ℕ). ¬ HasOrphan kinds l i j) (sym same)
                  (c.loop-j.invariant.none (sym w.lowered-is ∙ e) i j (omega (arith, within, apart)))
            ];
          }
    ]
