use Rattle.causal_world.proofs.SameWorldLemmas.{same_world}
use Rattle.causal_world.proofs.laws.one_world.Goals as goal

pub returns : goal.returns
returns c P w v of other same = same_world P w v of other same
