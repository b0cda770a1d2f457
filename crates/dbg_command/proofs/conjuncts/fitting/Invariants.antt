use Rattle.proc_tree.specs.Programs.{program_of}
use Rattle.dbg_command.proofs.ConjunctFitLemmas.{AreFitting}
use Rattle.dbg_command.proofs.conjuncts.fitting.Given as goal

abbrev pub invariant-loop-i : goal.invariant-loop-i
invariant-loop-i l = AreFitting (program_of l.program) l.conjuncts l.i
