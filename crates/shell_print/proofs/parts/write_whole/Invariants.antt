use Rattle.std.proofs.Common.{length}
use Rattle.shell_print.specs.Writing.{Progress}
use Rattle.shell_print.proofs.parts.write_whole.Given as goal

abbrev pub invariant-loop-rest : goal.invariant-loop-rest
invariant-loop-rest g l = Progress (g.W.Sink.seen l.fn.writer) (g.W.Sink.seen l.writer) l.fn.bytes l.rest

abbrev pub decreases-loop-rest : goal.decreases-loop-rest
decreases-loop-rest g l = length l.rest
