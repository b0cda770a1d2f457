use Rattle.causal_world.specs.Scenes.{scene}
use Rattle.causal_world.proofs.RollbackLemmas.{AreStuck}
use Rattle.causal_world.proofs.rolling.next_back.Given as goal

abbrev pub invariant-loop-p : goal.invariant-loop-p
invariant-loop-p l = AreStuck (scene l.lines l.envs l.grid.channels l.past) l.cut l.p
