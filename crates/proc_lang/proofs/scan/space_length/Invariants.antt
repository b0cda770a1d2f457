use Rattle.dbg_base.specs.Tokens.{is_space}
use Rattle.proc_lang.proofs.PassingPrefixLemmas.{PassedSoFar}
use Rattle.proc_lang.proofs.scan.space_length.Given as goal

abbrev pub invariant-loop-i : goal.invariant-loop-i
invariant-loop-i l = PassedSoFar is_space l.bytes l.i
