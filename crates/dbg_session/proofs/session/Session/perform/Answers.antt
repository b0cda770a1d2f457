use Rattle.std.proofs.Common.{Ok, Err, rules}
use Rattle.dbg_base.specs.declared.said.Reply.{Reply}
use Rattle.proc_tree.specs.Programs.{program_of}
use Rattle.dbg_command.specs.Tables.{FollowsOrRefuses, state_of}
use Rattle.dbg_session.proofs.StackUndoLemmas.{session_leads_to, session_kept, session_longer, seen_same}
use Rattle.dbg_session.proofs.AnswerFitLemmas.{order_fits}
use Rattle.dbg_session.proofs.session.Session.perform.Goals as goal

pub returns-in_err-reserve-clause-leads_to : goal.returns-in_err-reserve-clause-leads_to
returns-in_err-reserve-clause-leads_to g c = rw c.reserve.ensures.items (session_leads_to c.self.invariant)

pub invariant_of-self-in-Err-1 : goal.invariant_of-self-in-Err-1
invariant_of-self-in-Err-1 g c =
    rw c.reserve.ensures.items (session_kept c.self.invariant c.apply.ensures.of c.in-Err.ensures.refused.0)

pub returns-in-Err-clause-leads_to : goal.returns-in-Err-clause-leads_to
returns-in-Err-clause-leads_to g c = session_leads_to (invariant_of-self-in-Err-1 g c)

pub returns-in-Err-clause-fits : goal.returns-in-Err-clause-fits
returns-in-Err-clause-fits g c =
    let follows : FollowsOrRefuses (program_of c.self.inside.program) (g.C.Command.order c.args.command)
    (state_of c.self.inside.table) (Err c.in-Err.refusal) (state_of c.apply.new.table) = search rules in
    rw (← c.self.view_is) (order_fits c.self.inside.program.well_formed c.self.invariant.table _ (Err c.in-Err.refusal) _ follows)

pub returns-in-Err-clause-kept : goal.returns-in-Err-clause-kept
returns-in-Err-clause-kept g c =
    seen_same {T = Reply} g.C.Command.order c.self.inside.table c.apply.new.table (Err c.in-Err.refusal) c.reserve.ensures.items c.in-Err.ensures.refused.0 c.self.view_is

pub invariant_of-self-in-Ok : goal.invariant_of-self-in-Ok
invariant_of-self-in-Ok g c =
    rw (c.push_reserved.ensures.items, c.reserve.ensures.items) (session_longer c.self.invariant c.apply.ensures.of
    (record { seat = c.args.seat; command = c.apply.new.self }) (g.C.Command.order c.args.command) c.in-Ok.reply
    c.apply.ensures.same c.in-Ok.ensures.acts c.in-Ok.ensures.leads.1)

pub returns-in-Ok-clause-leads_to : goal.returns-in-Ok-clause-leads_to
returns-in-Ok-clause-leads_to g c = session_leads_to (invariant_of-self-in-Ok g c)

pub returns-in-Ok-clause-fits : goal.returns-in-Ok-clause-fits
returns-in-Ok-clause-fits g c =
    rw (← c.self.view_is) (order_fits c.self.inside.program.well_formed c.self.invariant.table (g.C.Command.order c.args.command)
    (Ok c.in-Ok.reply) (state_of c.apply.new.table) c.in-Ok.ensures.acts)
