use Rattle.std.proofs.Common.{ℕ, ◌≤◌, IsTrue, sym, ◌∙◌, subst}
use Rattle.std.proofs.lemmas.Bool.{le-leb, leb-true, lt-ltb, le-ltb, eq-eqb, eqb-true}
use Rattle.least_cut.specs.Searches.{IsStep}
use Rattle.least_cut.proofs.CheckedTrailLemmas.{of_tally, to_tally, never_both}
use Rattle.least_cut.proofs.checking.is_step.Goals as goal
use Rattle.least_cut.proofs.checking.is_step.Goals.{then-step-processes, else-step-processes, then-step-count, else-step-count}

pub returns-then-step-place : goal.returns-then-step-place
returns-then-step-place c =
    let step = c.args.step.now in
    elim c.if-step-count.branch [
      | then-step-count w ↦
          elim c.if-step-processes.branch [
            | then-step-processes v ↦ (
              λ (due : IsTrue c.is_due.result). record {
                here = of_tally c.args.world.now c.tally.result.now.kinds step.pid.0 c.processes.result c.requires
                    c.tally.ensures.kinds c.processes.ensures v.if-step-processes.true;
                from = eqb-true step.from v.count.result (sym v.value-is ∙ w.if-step-count.true) ∙ v.count.ensures;
                within = subst (λ (x : ℕ). step.from ≤ x) w.place.ensures
                    (leb-true step.from w.place.result (sym w.value-is ∙ c.if-step-place.true));
                due = c.is_due.ensures.0 due;
              },
              λ (is : IsStep c.args.world.now c.args.scan.now c.args.candidates.now step). c.is_due.ensures.1 is.due,
            )
            | else-step-processes v ↦
                absurd (never_both c.if-step-processes.value w.if-step-count.true
                (v.value-is ∙ le-ltb step.pid.0 c.processes.result v.if-step-processes.false))
          ]
      | else-step-count w ↦ absurd (never_both c.if-step-count.value c.if-step-place.true (w.value-is ∙ w.if-step-count.false))
    ]

pub returns-else-step-place : goal.returns-else-step-place
returns-else-step-place c =
    let step = c.args.step.now in (
      λ (due : IsTrue c.if-step-count.value). absurd (never_both c.if-step-count.value due c.if-step-place.false),
      λ (is : IsStep c.args.world.now c.args.scan.now c.args.candidates.now step).
          elim c.if-step-count.branch [
            | then-step-count w ↦
                w.value-is ∙ le-leb step.from w.place.result (subst (λ (x : ℕ). step.from ≤ x) (sym w.place.ensures) is.within)
            | else-step-count w ↦
                elim c.if-step-processes.branch [
                  | then-step-processes v ↦ w.value-is ∙ v.value-is ∙ eq-eqb step.from v.count.result (is.from ∙ sym v.count.ensures)
                  | else-step-processes v ↦
                      w.value-is ∙ v.value-is
                      ∙ lt-ltb step.pid.0 c.processes.result
                      (to_tally c.args.world.now c.tally.result.now.kinds step.pid.0 c.processes.result c.requires
                      c.tally.ensures.kinds c.processes.ensures is.here)
                ]
          ],
    )
