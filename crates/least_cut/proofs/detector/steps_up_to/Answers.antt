use Rattle.std.proofs.Common.{◌≤◌, List, ℕ, subst, arith, take_all}
use Rattle.least_cut.specs.Searches.{steps_up_to}
use Rattle.least_cut.proofs.MovedDetectorLemmas.{steps_next}
use Rattle.least_cut.proofs.detector.steps_up_to.Goals as goal

pub loop-p-preserved : goal.loop-p-preserved
loop-p-preserved c =
    let before = c.loop-p.invariant in (
      omega (arith, before.0, steps_next c.args.cut.now c.loop-p.p, c.count.ensures),
      omega (arith, before.1, c.count.type_inv),
    )

pub returns : goal.returns
returns c = λ few.
    subst (λ (l : List ℕ). steps_up_to l ≤ c.loop-p.steps) (take_all c.loop-p.p c.args.cut.now (omega (arith, few, c.loop-p-test.false)))
    c.loop-p.invariant.0
