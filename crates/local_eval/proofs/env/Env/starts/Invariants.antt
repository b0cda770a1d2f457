use Rattle.std.proofs.Common.{◌≡◌, length, take, map}
use Rattle.dbg_base.specs.LocalStates.{start_among}
use Rattle.proc_tree.specs.Programs.{program_of}
use Rattle.local_eval.proofs.env.Env.starts.Given as goal

abbrev pub invariant-loop-p : goal.invariant-loop-p
invariant-loop-p l = l.states.items ≡ map (start_among (length (program_of l.program))) (take l.p (program_of l.program))
