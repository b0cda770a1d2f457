use Rattle.std.proofs.Common.{length}
use Rattle.dbg_base.specs.CommandLines.{commands_of}
use Rattle.proc_tree.specs.Programs.{program_of}
use Rattle.shell_parse.proofs.Batches.{ReadSoFar}
use Rattle.shell_parse.proofs.batch_line.read_commands.Given as goal

abbrev pub invariant-loop-plan : goal.invariant-loop-plan
invariant-loop-plan l = ReadSoFar (program_of l.fn.program) (commands_of l.fn.bytes) (commands_of l.rest) l.plans.items

abbrev pub decreases-loop-plan : goal.decreases-loop-plan
decreases-loop-plan l = length l.rest
