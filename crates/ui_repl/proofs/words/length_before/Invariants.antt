use Rattle.std.specs.Prelude.{◌==◌, not}
use Rattle.proc_lang.proofs.PassingPrefixLemmas.{PassedSoFar}
use Rattle.ui_repl.proofs.words.length_before.Given as goal

abbrev pub invariant-loop-place : goal.invariant-loop-place
invariant-loop-place l = PassedSoFar (λ byte. not (byte == l.mark)) l.line l.place
