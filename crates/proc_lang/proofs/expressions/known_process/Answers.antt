use Rattle.proc_lang.specs.Writing.{named_of}
use Rattle.proc_lang.proofs.FirstCheckLemmas.{first_one, found_there, found_nowhere}
use Rattle.proc_lang.proofs.expressions.known_process.Goals as goal

pub returns-in-Some : goal.returns-in-Some
returns-in-Some c = found_there c.args.processes.now.all.now (named_of c.args.named) c.in-Some.index c.in-Some.ensures

pub returns-in-None : goal.returns-in-None
returns-in-None c =
    first_one c.bad.result _ _ c.bad.ensures (found_nowhere c.args.processes.now.all.now (named_of c.args.named) c.in-None.ensures)
