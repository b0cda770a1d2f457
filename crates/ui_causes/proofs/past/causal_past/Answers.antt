use Rattle.ui_causes.proofs.CausalPastLemmas.{clock_is_past}
use Rattle.ui_causes.proofs.past.causal_past.Goals as goal

pub returns-clause-past : goal.returns-clause-past
returns-clause-past c = clock_is_past c.args.world.now c.args.event c.in_ok-clock.field-0 c.in_ok-clock.ensures.clock
