use Rattle.ui_causes.proofs.CausalPastLemmas.{part_counts}
use Rattle.ui_causes.proofs.past.count_before.Goals as goal

pub returns : goal.returns
returns c = part_counts c.args.world.now c.args.event c.args.of.0 c.clock_part.result c.clock_part.ensures.part
