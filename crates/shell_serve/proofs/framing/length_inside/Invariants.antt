use Rattle.shell_serve.specs.Spans.{is_inside}
use Rattle.proc_lang.proofs.PassingPrefixLemmas.{PassedSoFar}
use Rattle.shell_serve.proofs.framing.length_inside.Given as goal

abbrev pub invariant-loop-i : goal.invariant-loop-i
invariant-loop-i l = PassedSoFar is_inside l.bytes l.i
