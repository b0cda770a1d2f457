use Rattle.ui_halt.proofs.PartLemmas.{earlier_truth}
use Rattle.ui_halt.proofs.part.find_earlier.Goals as goal

pub returns : goal.returns
returns c part same are inside =
    earlier_truth c.args.world.now part c.args.cut.now c.args.truths.now c.args.since c.in_ok-events.events c.args.pid
    c.find_reason-reason.result same are inside c.in_ok-events.ensures c.find_reason-reason.ensures
