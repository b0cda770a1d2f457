use Rattle.std.proofs.Common.{sym, subst, refl}
use Rattle.dbg_base.specs.declared.call.Plan as given
use Rattle.dbg_base.specs.Calls.{IsOne, order_of}
use Rattle.proc_tree.specs.Programs.{program_of}
use Rattle.least_cut.proofs.ListLoopLemmas.{all_at}
use Rattle.dbg_command.specs.Tables.{state_of}
use Rattle.dbg_command.proofs.BatchLemmas.{shown_state, goes_begin, goes_more, goes_refused, goes_all}
use Rattle.dbg_command.proofs.table.Table.give_each.Goals as goal

pub loop-i-init : goal.loop-i-init
loop-i-init c = record { of = c.requires.of; goes = goes_begin _ _ _ }

pub loop-i-preserved : goal.loop-i-preserved
loop-i-preserved c =
    let plan = c.index-plans-i.result in
    let one = subst (λ (p : given.Plan). IsOne (order_of p)) (sym c.index-plans-i.is)
    (all_at (λ (p : given.Plan). IsOne (order_of p)) c.args.plans.now c.loop-i.i plan c.requires.commands.each c.loop-i-test.true) in
    record {
      of = c.give_one.ensures.of;
      goes = goes_more (program_of c.args.program.now) (state_of c.args.self.now) c.args.plans.now c.loop-i.i (state_of c.loop-i.self)
          c.loop-i.invariant.goes plan c.index-plans-i.is c.loop-i-test.true (order_of plan) c.in-Ok.field-0
          (state_of c.give_one.new.self) refl one c.in-Ok.ensures.acts;
    }

pub returns-in-Err-clause-gives : goal.returns-in-Err-clause-gives
returns-in-Err-clause-gives c =
    let plan = c.index-plans-i.result in
    let one = subst (λ (p : given.Plan). IsOne (order_of p)) (sym c.index-plans-i.is)
    (all_at (λ (p : given.Plan). IsOne (order_of p)) c.args.plans.now c.loop-i.i plan c.requires.commands.each c.loop-i-test.true) in
    goes_refused (program_of c.args.program.now) (state_of c.args.self.now) c.args.plans.now c.loop-i.i (state_of c.loop-i.self)
    c.loop-i.invariant.goes plan c.index-plans-i.is c.loop-i-test.true (order_of plan) c.in-Err.refusal c.within_batch.result
    (state_of c.give_one.new.self) refl one c.in-Err.ensures.acts (shown_state _ _ c.in-Err.ensures.kept) c.within_batch.ensures

pub returns-clause-gives : goal.returns-clause-gives
returns-clause-gives c =
    goes_all (program_of c.args.program.now) (state_of c.args.self.now) c.args.plans.now c.loop-i.i (state_of c.loop-i.self)
    c.loop-i.invariant.goes c.loop-i-test.false
