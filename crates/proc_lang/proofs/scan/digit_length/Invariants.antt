use Rattle.dbg_base.specs.Tokens.{is_digit}
use Rattle.proc_lang.proofs.PassingPrefixLemmas.{PassedSoFar}
use Rattle.proc_lang.proofs.scan.digit_length.Given as goal

abbrev pub invariant-loop-i : goal.invariant-loop-i
invariant-loop-i l = PassedSoFar is_digit l.bytes l.i
