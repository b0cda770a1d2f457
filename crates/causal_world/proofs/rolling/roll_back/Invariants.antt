use Rattle.std.proofs.Common.{◌+◌, ◌≤◌, sum}
use Rattle.std.specs.Vec.{vec_len, vec_capacity}
use Rattle.cut_core.specs.ConsistentCuts.{places}
use Rattle.causal_world.specs.Scenes.{scene}
use Rattle.causal_world.proofs.RollbackLemmas.{Reverses}
use Rattle.causal_world.proofs.rolling.roll_back.Given as goal

abbrev pub invariant-loop-pid : goal.invariant-loop-pid
invariant-loop-pid l = record {
  reverses : Reverses (scene l.fn.lines l.fn.envs.items l.fn.grid.channels l.fn.past) (scene l.lines l.envs.items l.grid.channels l.past)
      l.grid.room l.cut l.taken.items;
  room : sum (places l.past.kinds) + vec_len l.taken ≤ vec_capacity l.taken + sum l.cut;
}

abbrev pub decreases-loop-pid : goal.decreases-loop-pid
decreases-loop-pid l = sum (places l.past.kinds)
