use Rattle.causal_world.proofs.Inverses.{redo_may, redo_back, memory_alone}
use Rattle.causal_world.proofs.world.World.unredo.Goals as goal

pub returns-in-Err-clause-refuses : goal.returns-in-Err-clause-refuses
returns-in-Err-clause-refuses c =
    let P = c.requires.0 in
    let r = c.requires.1 in
    memory_alone P c.args.self.now c.args.pid.0 c.in-Err.refusal r.now (redo_may P c.args.pid.0 c.args.self.now r) c.in-Err.ensures.refuses

pub returns-in-Ok-clause-back : goal.returns-in-Ok-clause-back
returns-in-Ok-clause-back c = λ P r. redo_back P c.args.pid.0 c.args.self.now c.pop_event.new.self _ r c.in-Ok.ensures.took
