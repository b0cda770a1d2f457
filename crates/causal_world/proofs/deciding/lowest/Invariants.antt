use Rattle.proc_tree.specs.Programs.{program_of}
use Rattle.causal_world.proofs.CommandEventLemmas.{NoneBefore}
use Rattle.causal_world.proofs.deciding.lowest.Given as goal

abbrev pub invariant-loop-k : goal.invariant-loop-k
invariant-loop-k l = NoneBefore (program_of l.program) (record { states = l.envs; channels = l.grid.channels }) l.pid.0 l.k
