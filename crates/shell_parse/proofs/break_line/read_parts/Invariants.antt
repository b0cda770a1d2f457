use Rattle.std.proofs.Common.{length}
use Rattle.proc_tree.specs.Programs.{program_of}
use Rattle.shell_parse.proofs.ReadPartLemmas.{ReadSoFar}
use Rattle.shell_parse.proofs.break_line.read_parts.Given as goal

abbrev pub invariant-loop-name : goal.invariant-loop-name
invariant-loop-name l = ReadSoFar (program_of l.fn.program) l.fn.bytes l.rest l.made.items

abbrev pub decreases-loop-name : goal.decreases-loop-name
decreases-loop-name l = length l.rest
