use Rattle.std.proofs.Common.{subst}
use Rattle.proc_tree.specs.Programs.{program_of}
use Rattle.shell_print.proofs.CountLemmas.{size_of}
use Rattle.shell_print.proofs.WriteLemmas.{writes_same}
use Rattle.shell_print.proofs.notices.tell_size.Goals as goal

pub returns-clause-written : goal.returns-clause-written
returns-clause-written g c =
    writes_same (size_of (program_of c.args.program.now) _ _ c.processes.ensures.value c.command_count.ensures) c.tell_counts.ensures.written
