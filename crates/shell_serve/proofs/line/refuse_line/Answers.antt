use Rattle.dbg_base.specs.Trees.{Program}
use Rattle.dbg_base.specs.Replies.{refusal_text}
use Rattle.dbg_base.specs.Shell.{as_line}
use Rattle.shell_serve.proofs.CommandReplyLemmas.{shown_for}
use Rattle.shell_serve.proofs.SessionLemmas.{refused_then, refused_not, unmarked, flushed, form_ok, form_err}
use Rattle.shell_serve.proofs.line.refuse_line.Goals as goal

pub returns-clause-told : goal.returns-clause-told
returns-clause-told g c =
    form_ok (refused_then g.T.Observer.manner (g.F.ReplyForm.Shows c.args.form.now)
    (as_line (refusal_text g.L.Run.program c.args.refusal.now)) _ _ _ _ c.in_ok-mark.ensures
    (shown_for (g.F.ReplyForm.Shows c.args.form.now) _ _ (λ (Q : Program). as_line (refusal_text Q c.args.refusal.now)) c.program.ensures
    c.in_ok-write_reply.ensures)
    (flushed c.explain-explained.ensures c.in_ok-hand_on.ensures))

pub returns-in_err-hand_on-clause-told : goal.returns-in_err-hand_on-clause-told
returns-in_err-hand_on-clause-told g c =
    form_err (refused_then g.T.Observer.manner (g.F.ReplyForm.Shows c.args.form.now)
    (as_line (refusal_text g.L.Run.program c.args.refusal.now)) _ _ _ _ c.in_ok-mark.ensures
    (shown_for (g.F.ReplyForm.Shows c.args.form.now) _ _ (λ (Q : Program). as_line (refusal_text Q c.args.refusal.now)) c.program.ensures
    c.in_ok-write_reply.ensures)
    (flushed c.explain-explained.ensures c.in_err-hand_on.ensures)) c.from_residual-in_err-hand_on.ensures.1

pub returns-in_err-write_reply-clause-told : goal.returns-in_err-write_reply-clause-told
returns-in_err-write_reply-clause-told g c =
    refused_not g.T.Observer.manner (g.F.ReplyForm.Shows c.args.form.now)
    (as_line (refusal_text g.L.Run.program c.args.refusal.now)) _ _ _ c.requires.quiet c.in_ok-mark.ensures
    (shown_for (g.F.ReplyForm.Shows c.args.form.now) _ _ (λ (Q : Program). as_line (refusal_text Q c.args.refusal.now)) c.program.ensures
    c.in_err-write_reply.ensures)
    c.from_residual-in_err-write_reply.ensures.1

pub returns-in_err-mark-clause-told : goal.returns-in_err-mark-clause-told
returns-in_err-mark-clause-told g c =
    unmarked g.T.Observer.manner (g.F.ReplyForm.Shows c.args.form.now)
    (as_line (refusal_text g.L.Run.program c.args.refusal.now)) _ _ c.requires.quiet c.in_err-mark.ensures c.from_residual.ensures.1
