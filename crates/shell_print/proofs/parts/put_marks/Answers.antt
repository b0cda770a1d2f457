use Rattle.dbg_base.specs.Replies.{mark_word}
use Rattle.shell_print.proofs.WriteLemmas.{row_put, row_stopped, next_mapped}
use Rattle.shell_print.proofs.parts.put_marks.Goals as goal

pub returns-in_err-put_mark : goal.returns-in_err-put_mark
returns-in_err-put_mark g c =
    row_stopped _ _ _ _ _ _ _ _ _ _ c.loop-mark.invariant
    (next_mapped mark_word c.args.marks.now _ _ _ c.loop-mark-test.true c.mark-item.is)
    c.in_err-put_mark.ensures c.from_residual.ensures.1

pub loop-mark-preserved : goal.loop-mark-preserved
loop-mark-preserved g c =
    row_put _ _ _ _ _ _ _ _ _ c.loop-mark.invariant
    (next_mapped mark_word c.args.marks.now _ _ _ c.loop-mark-test.true c.mark-item.is)
    c.in_ok-put_mark.ensures
