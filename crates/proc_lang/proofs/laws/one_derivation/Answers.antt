use Rattle.proc_lang.proofs.WholeTextLemmas.{program_once}
use Rattle.proc_lang.proofs.laws.one_derivation.Goals as goal

pub returns : goal.returns
returns c = program_once
