use Rattle.proc_lang.proofs.PassingPrefixLemmas.{PassedSoFar}
use Rattle.shell_parse.proofs.FirstWords.{is_inner}
use Rattle.shell_parse.proofs.words.word_length.Given as goal

abbrev pub invariant-loop-i : goal.invariant-loop-i
invariant-loop-i l = PassedSoFar is_inner l.bytes l.i
