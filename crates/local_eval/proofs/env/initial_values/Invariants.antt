use Rattle.std.proofs.Common.{◌≡◌, take}
use Rattle.dbg_base.specs.Trees.{process_of}
use Rattle.dbg_base.specs.LocalStates.{start_values}
use Rattle.proc_tree.specs.Programs.{program_of}
use Rattle.local_eval.proofs.env.initial_values.Given as goal

abbrev pub invariant-loop-index : goal.invariant-loop-index
invariant-loop-index l =
    l.values.items ≡ take l.index (start_values (process_of (program_of l.program) l.pid.0))
