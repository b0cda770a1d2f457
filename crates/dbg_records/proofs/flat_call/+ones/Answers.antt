use Rattle.std.proofs.Common.{◌≡◌, ◌<◌, ◌++◌, true, List, length, get_or, ap, ◌∙◌, arith, take_all}
use Rattle.dbg_base.specs.declared.call.Plan as plan
use Rattle.dbg_base.specs.Calls.{Order, plans_of, plans_in}
use Rattle.dbg_records.specs.Flat.{is_one, are_ones, one_order}
use Rattle.dbg_records.proofs.SingleCommandLemmas.{plans_push, ones_push, plans_more, one_if}
use Rattle.dbg_records.proofs.flat_call.+ones.Goals as goal

pub add_copies-loop-plan-preserved : goal.add_copies-loop-plan-preserved
add_copies-loop-plan-preserved t c =
    let value = c.deref-plan-items.ensures.value in
    let is = c.plan-item.is ∙ ap (λ (l : List plan.Plan). get_or l c.loop-plan.plan-index c.plan-item.result) value in
    let within : c.loop-plan.plan-index < length c.args.plans.now.items =
    let size = ap (λ (l : List plan.Plan). length l) value in omega (arith, c.loop-plan-test.true, size) in (
      plans_more c.args.plans.now.items c.args.ones.items c.loop-plan.made.items c.in_ok-made.made.items c.loop-plan.plan-index
          c.plan-item.result within is c.loop-plan.invariant.0 c.in_ok-made.ensures.copies,
      c.in_ok-made.ensures.ones,
    )

pub add_copies-returns-clause-copies : goal.add_copies-returns-clause-copies
add_copies-returns-clause-copies t c =
    c.loop-plan.invariant.0
    ∙ ap (λ (l : List plan.Plan). plans_in c.args.ones.items ++ plans_in l)
    (let size = ap (λ (l : List plan.Plan). length l) c.deref-plan-items.ensures.value in
    take_all c.loop-plan.plan-index c.args.plans.now.items (omega (arith, c.loop-plan-test.false, size)))

pub add_copy-returns-in_ok-push-in_default : goal.add_copy-returns-in_ok-push-in_default
add_copy-returns-in_ok-push-in_default t c =
    let same = c.in_ok-copy-in_default.ensures in
    let pushed = c.in_ok-push-in_default.ensures.items in
    let one : is_one c.args.plan.now ≡ true = one_if c.args.plan.now c.in_default.not-Batch in
    let kept : is_one c.in_ok-copy-in_default.field-0 ≡ true = ap (λ (o : Order). one_order o) same ∙ one in
    record {
      copies = ap (λ (l : List plan.Plan). plans_in l) pushed ∙ plans_push c.args.ones.items c.in_ok-copy-in_default.field-0
          ∙ ap (λ (o : Order). plans_in c.args.ones.items ++ plans_of o) same;
      ones = ap (λ (l : List plan.Plan). are_ones l) pushed
          ∙ ones_push c.args.ones.items c.in_ok-copy-in_default.field-0 c.requires.ones kept;
    }
