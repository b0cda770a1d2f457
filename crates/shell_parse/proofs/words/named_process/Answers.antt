use Rattle.proc_tree.specs.Programs.{program_of}
use Rattle.shell_parse.proofs.ProcessNameLemmas.{found_known}
use Rattle.shell_parse.proofs.words.named_process.Goals as goal

pub returns-in-Some-clause-known : goal.returns-in-Some-clause-known
returns-in-Some-clause-known c = found_known (program_of c.args.program.now) c.args.name.now c.in-Some.pid c.in-Some.ensures
