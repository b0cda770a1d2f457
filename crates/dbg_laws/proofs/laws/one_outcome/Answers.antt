use Rattle.dbg_laws.proofs.OneOutcome as outcome
use Rattle.dbg_laws.proofs.laws.one_outcome.Goals as goal

pub returns : goal.returns
returns c = λ P order M of possible. outcome.one_outcome P order M of possible
