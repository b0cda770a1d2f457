use Rattle.test_engine.proofs.Batches.{two_pushed}
use Rattle.test_engine.proofs.crew.many.two_commands.Goals as goal

pub returns : goal.returns
returns c = two_pushed _ _ _ _ _ c.new-plans.ensures.items c.in_ok-push.ensures.items c.in_ok-push-2.ensures.items
