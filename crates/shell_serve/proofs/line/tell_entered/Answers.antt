use Rattle.std.proofs.Common.{sym, ◌∙◌, subst}
use Rattle.dbg_base.specs.Journals.{Entry}
use Rattle.dbg_base.specs.Fits.{FitsCall}
use Rattle.dbg_base.specs.Trees.{Program}
use Rattle.dbg_base.specs.Replies.{reply_text}
use Rattle.dbg_base.specs.Shell.{as_line}
use Rattle.dbg_desk.specs.Desks.{entry_of}
use Rattle.std.proofs.lemmas.Option.{same_Some}
use Rattle.shell_serve.proofs.SessionLemmas.{refused_then, refused_not, unmarked, flushed, form_ok, form_err}
use Rattle.shell_serve.proofs.CommandReplyLemmas.{shown_for, told_same}
use Rattle.shell_serve.proofs.line.tell_entered.Goals as goal

pub write_reply-requires : goal.write_reply-requires
write_reply-requires g c =
    let own : Entry = entry_of c.last_entry-entry.result.now in
    subst (λ (Q : Program). FitsCall Q own.call own.said) (sym c.program.ensures) (c.requires.last.fits own c.last_entry-entry.ensures)

pub explain-explained-requires : goal.explain-explained-requires
explain-explained-requires g c =
    let own : Entry = entry_of c.last_entry-entry.result.now in
    subst (λ (Q : Program). FitsCall Q own.call own.said) (sym c.view.ensures.program) (c.requires.last.fits own c.last_entry-entry.ensures)

pub returns-clause-told : goal.returns-clause-told
returns-clause-told g c = λ entry last.
    let own : Entry = entry_of c.last_entry-entry.result.now in
    let due = as_line (reply_text g.L.Run.program own.call own.said) in
    let shows = g.F.ReplyForm.Shows c.args.form.now in
    told_same g.T.Observer.manner shows g.L.Run.program own entry (same_Some own entry (sym c.last_entry-entry.ensures ∙ last))
    (form_ok (refused_then g.T.Observer.manner shows due _ _ _ _ c.in_ok-mark.ensures
    (shown_for shows _ _ (λ (Q : Program). as_line (reply_text Q own.call own.said)) c.program.ensures
    c.in_ok-write_reply.ensures)
    (flushed c.explain-explained.ensures c.in_ok-hand_on.ensures)))

pub returns-in_err-hand_on-clause-told : goal.returns-in_err-hand_on-clause-told
returns-in_err-hand_on-clause-told g c = λ entry last.
    let own : Entry = entry_of c.last_entry-entry.result.now in
    let due = as_line (reply_text g.L.Run.program own.call own.said) in
    let shows = g.F.ReplyForm.Shows c.args.form.now in
    told_same g.T.Observer.manner shows g.L.Run.program own entry (same_Some own entry (sym c.last_entry-entry.ensures ∙ last))
    (form_err (refused_then g.T.Observer.manner shows due _ _ _ _ c.in_ok-mark.ensures
    (shown_for shows _ _ (λ (Q : Program). as_line (reply_text Q own.call own.said)) c.program.ensures
    c.in_ok-write_reply.ensures)
    (flushed c.explain-explained.ensures c.in_err-hand_on.ensures)) c.from_residual-in_err-hand_on.ensures.1)

pub returns-in_err-write_reply-clause-told : goal.returns-in_err-write_reply-clause-told
returns-in_err-write_reply-clause-told g c = λ entry last.
    let own : Entry = entry_of c.last_entry-entry.result.now in
    let due = as_line (reply_text g.L.Run.program own.call own.said) in
    let shows = g.F.ReplyForm.Shows c.args.form.now in
    told_same g.T.Observer.manner shows g.L.Run.program own entry (same_Some own entry (sym c.last_entry-entry.ensures ∙ last))
    (refused_not g.T.Observer.manner shows due _ _ _ c.requires.quiet c.in_ok-mark.ensures
    (shown_for shows _ _ (λ (Q : Program). as_line (reply_text Q own.call own.said)) c.program.ensures
    c.in_err-write_reply.ensures)
    c.from_residual-in_err-write_reply.ensures.1)

pub returns-in_err-mark-clause-told : goal.returns-in_err-mark-clause-told
returns-in_err-mark-clause-told g c = λ entry last.
    let own : Entry = entry_of c.last_entry-entry.result.now in
    let due = as_line (reply_text g.L.Run.program own.call own.said) in
    let shows = g.F.ReplyForm.Shows c.args.form.now in
    told_same g.T.Observer.manner shows g.L.Run.program own entry (same_Some own entry (sym c.last_entry-entry.ensures ∙ last))
    (unmarked g.T.Observer.manner shows due _ _ c.requires.quiet c.in_err-mark.ensures c.from_residual.ensures.1)
