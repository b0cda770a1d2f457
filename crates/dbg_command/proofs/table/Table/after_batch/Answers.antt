use Rattle.std.proofs.Common.{◌≡◌, Err, sym, ap, subst, rules}
use Rattle.dbg_base.specs.Calls.{plans_in}
use Rattle.proc_tree.specs.Programs.{program_of}
use Rattle.dbg_command.specs.Tables.{IsTableOf, state_of}
use Rattle.dbg_command.proofs.BatchLemmas.{batch_accepted, batch_refused}
use Rattle.dbg_command.proofs.table.Table.after_batch.Goals as goal

pub give_each-requires-clause-of : goal.give_each-requires-clause-of
give_each-requires-clause-of c = subst (IsTableOf (program_of c.args.program.now)) (sym c.in_ok-after.ensures) c.requires.of

pub returns-in_err-give_each-clause-refuses : goal.returns-in_err-give_each-clause-refuses
returns-in_err-give_each-clause-refuses c =
    let refused = c.in_err-give_each.was in
    let err : c.from_residual-in_err-give_each.result ≡ Err c.in_err-give_each.field-0.0 = search (rules, refused) in
    rw err (batch_refused (program_of c.args.program.now) (plans_in c.args.plans.now) (state_of c.args.self.now)
    (state_of c.in_ok-after.after) (state_of c.give_each.new.self) (ap state_of c.in_ok-after.ensures)
    c.in_err-give_each.field-0.0 c.in_err-give_each.ensures.gives)

pub returns-clause-acts : goal.returns-clause-acts
returns-clause-acts c =
    let P = program_of c.args.program.now in
    batch_accepted P (plans_in c.args.plans.now) (state_of c.args.self.now) (state_of c.in_ok-after.after)
    (state_of c.give_each.new.self) (ap state_of c.in_ok-after.ensures) tt c.reply.result
    c.in_ok-give_each.ensures.gives (c.reply.ensures P c.give_each.ensures.of)
