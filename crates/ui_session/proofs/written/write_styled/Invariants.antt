use Rattle.shell_print.specs.Writing.{Progress}
use Rattle.ui_session.proofs.written.write_styled.Given as goal

abbrev pub invariant-loop-change : goal.invariant-loop-change
invariant-loop-change g l = Progress (g.W.Sink.seen l.fn.writer) (g.W.Sink.seen l.writer) l.fn.bytes l.rest
