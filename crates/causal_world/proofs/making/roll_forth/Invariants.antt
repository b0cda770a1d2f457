use Rattle.std.proofs.Common.{length}
use Rattle.dbg_base.specs.Trees.{Program}
use Rattle.causal_world.specs.Scenes.{scene}
use Rattle.causal_world.specs.Room.{HasRoomForth, HasRoomForEach}
use Rattle.causal_world.specs.Rollings.{IsRolled, IsRolledFrom}
use Rattle.causal_world.proofs.making.roll_forth.Given as goal

abbrev pub invariant-loop-pid : goal.invariant-loop-pid
invariant-loop-pid l = record {
  rolled : (P : Program) (r : IsRolled P l.fn.taken.items (scene l.fn.lines l.fn.envs.items l.fn.grid.channels l.fn.past))
      → IsRolledFrom P r.before l.taken.items (scene l.lines l.envs.items l.grid.channels l.past);
  ways : HasRoomForth (length l.past.kinds) l.grid.room l.taken.items;
  room : HasRoomForEach l.past l.taken.items;
}

abbrev pub decreases-loop-pid : goal.decreases-loop-pid
decreases-loop-pid l = goal.left-loop-pid l
