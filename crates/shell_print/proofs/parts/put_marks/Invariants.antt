use Rattle.std.proofs.Common.{◌++◌, drop, map}
use Rattle.dbg_base.specs.Replies.{spaced, mark_word}
use Rattle.shell_print.specs.Writing.{Progress}
use Rattle.shell_print.proofs.parts.put_marks.Given as goal

abbrev pub invariant-loop-mark : goal.invariant-loop-mark
invariant-loop-mark g l =
    Progress (g.W.Sink.seen l.fn.writer) (g.W.Sink.seen l.writer) (l.fn.text ++ spaced (map mark_word l.marks))
    (l.text ++ spaced (map mark_word (drop l.mark-index l.marks)))
