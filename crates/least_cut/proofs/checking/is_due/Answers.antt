use Rattle.std.proofs.Common.{ℕ, ◌≤◌, sym, ◌∙◌, subst}
use Rattle.std.proofs.lemmas.Bool.{leb-true, ltb-true, le-ltb, eqb-true}
use Rattle.least_cut.proofs.CheckedTrailLemmas.{of_tally, due_more, never_both}
use Rattle.least_cut.proofs.checking.is_due.Goals as goal
use Rattle.least_cut.proofs.checking.is_due.Goals.{then-by-processes, else-by-processes, then-event-count, else-event-count}
use Rattle.least_cut.proofs.checking.is_due.Goals.{then-event-place, else-event-place}

pub clock_part-requires-clause-process : goal.clock_part-requires-clause-process
clock_part-requires-clause-process c =
    elim c.if-event-count.branch [
      | then-event-count w ↦
          elim c.if-by-processes.branch [
            | then-by-processes v ↦
                of_tally c.args.world.now c.tally.result.now.kinds c.in-Passed.by.0 c.processes.result c.requires
                c.tally.ensures.kinds c.processes.ensures v.if-by-processes.true
            | else-by-processes v ↦
                of_tally c.args.world.now c.tally.result.now.kinds c.in-Passed.by.0 c.processes.result c.requires
                c.tally.ensures.kinds c.processes.ensures
                (ltb-true c.in-Passed.by.0 c.processes.result (sym v.value-is ∙ w.if-event-count.true))
          ]
      | else-event-count w ↦
          absurd (never_both c.if-event-count.value c.if-event-place.true (w.value-is ∙ w.if-event-count.false))
    ]

pub returns-then-clock_part-to : goal.returns-then-clock_part-to
returns-then-clock_part-to c =
    elim c.if-event-place.branch [
      | then-event-place u ↦
          elim c.if-event-count.branch [
            | then-event-count w ↦
                elim c.if-by-processes.branch [
                  | then-by-processes v ↦
                      due_more c.args.world.now c.args.scan.now c.args.candidates.now c.args.step.now.pid.0 c.args.step.now.from
                      c.args.step.now.to u.clock_part.result c.args.step.now.cause c.in-Passed.by c.in-Passed.event c.in-Passed.is
                      (of_tally c.args.world.now c.tally.result.now.kinds c.in-Passed.by.0 c.processes.result c.requires
                      c.tally.ensures.kinds c.processes.ensures v.if-by-processes.true)
                      (subst (λ (x : ℕ). c.in-Passed.event ≤ x) v.count.ensures
                      (leb-true c.in-Passed.event v.count.result (sym v.value-is ∙ w.if-event-count.true)))
                      (subst (λ (x : ℕ). c.in-Passed.event ≤ x) w.place.ensures
                      (leb-true c.in-Passed.event w.place.result (sym w.value-is ∙ u.if-event-place.true)))
                      u.clock_part.ensures.row
                      (eqb-true u.clock_part.result c.args.step.now.to (sym u.value-is ∙ c.if-clock_part-to.true))
                  | else-by-processes v ↦
                      absurd (never_both c.if-by-processes.value w.if-event-count.true
                      (v.value-is ∙ le-ltb c.in-Passed.by.0 c.processes.result v.if-by-processes.false))
                ]
            | else-event-count w ↦
                absurd (never_both c.if-event-count.value u.if-event-place.true (w.value-is ∙ w.if-event-count.false))
          ]
      | else-event-place u ↦
          absurd (never_both c.if-event-place.value c.if-clock_part-to.true (u.value-is ∙ u.if-event-place.false))
    ]
