use Rattle.std.proofs.Common.{length}
use Rattle.dbg_base.specs.CommandLines.{commands_of}
use Rattle.proc_tree.specs.Programs.{program_of}
use Rattle.shell_parse.proofs.Batches.{Counted}
use Rattle.shell_parse.proofs.batch_line.are_commands.Given as goal

abbrev pub invariant-loop-count : goal.invariant-loop-count
invariant-loop-count l = Counted (program_of l.fn.program) (commands_of l.fn.bytes) (commands_of l.rest) l.count

abbrev pub decreases-loop-count : goal.decreases-loop-count
decreases-loop-count l = length l.rest
