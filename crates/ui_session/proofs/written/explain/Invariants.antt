use Rattle.ui_session.proofs.DialogueLemmas.{Explains}
use Rattle.ui_session.proofs.written.explain.Given as goal

abbrev pub invariant-loop-number : goal.invariant-loop-number
invariant-loop-number g l = Explains (g.W.Sink.seen l.fn.writer) (g.W.Sink.seen l.writer)
