use Rattle.std.proofs.Common.{ℕ, ◌<◌}
use Rattle.std.specs.List.{count_by}
use Rattle.causal_world.specs.Pasts.{IsSamePast, HasRoomFor}
use Rattle.causal_world.specs.Room.{is_of}
use Rattle.causal_world.proofs.making.make_room_forth.Given as goal

abbrev pub invariant-loop-p : goal.invariant-loop-p
invariant-loop-p l = record {
  same : IsSamePast l.fn.past l.past;
  room : (q : ℕ) → q < l.p → HasRoomFor l.past q (count_by (is_of q) l.taken);
}
