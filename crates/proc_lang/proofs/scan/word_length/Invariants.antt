use Rattle.dbg_base.specs.Tokens.{is_word_byte}
use Rattle.proc_lang.proofs.PassingPrefixLemmas.{PassedSoFar}
use Rattle.proc_lang.proofs.scan.word_length.Given as goal

abbrev pub invariant-loop-i : goal.invariant-loop-i
invariant-loop-i l = PassedSoFar is_word_byte l.bytes l.i
