use Rattle.causal_world.proofs.LastEventLemmas.{undoable_by}
use Rattle.causal_world.proofs.world.World.undoable.Goals as goal

pub returns : goal.returns
returns c = rw (← c.self.view_is) (undoable_by _ c.args.pid.0 c.last_exchange.result c.last_exchange.ensures)
