use Rattle.std.proofs.Common.{inl, rules, vec_len}
use Rattle.proc_tree.specs.Programs.{program_of}
use Rattle.dbg_command.specs.Tables.{IsTableOf}
use Rattle.dbg_session.proofs.Stacks.{EndsWith, last_written}
use Rattle.dbg_session.proofs.StackUndoLemmas.{session_leads_to, session_kept, session_shorter, last_may_go_back, last_stays, gave_last, answers_back, seen_same}
use Rattle.dbg_command.proofs.CommandUndoLemmas.{if_refused}
use Rattle.dbg_session.proofs.AnswerFitLemmas.{plain_fits}
use Rattle.dbg_session.proofs.session.Session.back.Given.{Over}
use Rattle.dbg_session.proofs.session.Session.back.Goals as goal

pub returns-then-last-seat-clause-leads_to : goal.returns-then-last-seat-clause-leads_to
returns-then-last-seat-clause-leads_to g c =
    let ends : EndsWith c.self.inside.stack.items (vec_len c.self.inside.stack) c.in-Some.last.now = search rules in
    rw (last_written _ _ _ ends) (session_leads_to c.self.invariant)

pub revert-requires : goal.revert-requires
revert-requires g c =
    let ends : EndsWith c.self.inside.stack.items (vec_len c.self.inside.stack) c.in-Some.last.now = search rules in
    (program_of c.self.inside.program, c.self.invariant.table, last_may_go_back c.self.invariant ends)

pub invariant_of-self-in_err-revert : goal.invariant_of-self-in_err-revert
invariant_of-self-in_err-revert g c =
    let ends : EndsWith c.self.inside.stack.items (vec_len c.self.inside.stack) c.in-Some.last.now = search rules in
    let of : IsTableOf (program_of c.self.inside.program) c.revert.new.table =
    c.in_err-revert.ensures.of _ c.self.invariant.table (last_may_go_back c.self.invariant ends) in
    rw (last_stays c.self.invariant ends c.revert.new.self c.in_err-revert.ensures.unchanged)
    (session_kept c.self.invariant of c.in_err-revert.ensures.kept)

pub returns-in_err-revert-clause-leads_to : goal.returns-in_err-revert-clause-leads_to
returns-in_err-revert-clause-leads_to g c = session_leads_to (invariant_of-self-in_err-revert g c)

pub returns-in_err-revert-clause-kept : goal.returns-in_err-revert-clause-kept
returns-in_err-revert-clause-kept g c =
    let ends : EndsWith c.self.inside.stack.items (vec_len c.self.inside.stack) c.in-Some.last.now = search rules in
    seen_same g.C.Command.order c.self.inside.table c.revert.new.table c.from_residual.result (last_stays c.self.invariant ends c.revert.new.self c.in_err-revert.ensures.unchanged)
    c.in_err-revert.ensures.kept c.self.view_is

pub returns-in_err-revert-clause-memory : goal.returns-in_err-revert-clause-memory
returns-in_err-revert-clause-memory g c =
    let ends : EndsWith c.self.inside.stack.items (vec_len c.self.inside.stack) c.in-Some.last.now = search rules in
    rw (← c.self.view_is) (if_refused c.from_residual.result (gave_last c.self.invariant ends c.args.seat c.if-last-seat.false))

-- the command at the end of the stack, and the table after it is undone

ends_of : (g : Over) (c : goal.Joined-taken g) → EndsWith c.self.inside.stack.items (vec_len c.self.inside.stack) c.in-Some.last.now
ends_of g c = search rules

still_of : (g : Over) (c : goal.Joined-taken g) → IsTableOf (program_of c.self.inside.program) c.revert.new.table
still_of g c = c.in_ok-revert.ensures.of _ c.self.invariant.table (last_may_go_back c.self.invariant (ends_of g c))

pub invariant_of-self-2 : goal.invariant_of-self-2
invariant_of-self-2 g c =
    session_shorter c.self.invariant (ends_of g c) (still_of g c) c.in_ok-revert.ensures.back c.pop-taken.new.self.items
    (record { seat = c.in-Some.last.now.seat; command = c.revert.new.self }) c.pop-taken.ensures.rest

pub returns-clause-due : goal.returns-clause-due
returns-clause-due g c =
    rw (← c.self.view_is) (inl (answers_back c.self.invariant (ends_of g c) (still_of g c) c.in_ok-revert.ensures.back c.args.seat
    c.reply.result c.if-last-seat.false (c.reply.ensures _ (still_of g c))))

pub returns-clause-leads_to : goal.returns-clause-leads_to
returns-clause-leads_to g c = session_leads_to (invariant_of-self-2 g c)

pub returns-clause-fits : goal.returns-clause-fits
returns-clause-fits g c = plain_fits c.args.self.now.program c.reply.result.done (c.reply.ensures _ (still_of g c)).done
