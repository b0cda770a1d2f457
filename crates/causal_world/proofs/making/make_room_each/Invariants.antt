use Rattle.std.proofs.Common.{◌≡◌, ℕ, get_or, take}
use Rattle.causal_world.proofs.Inverses.{HasRoomFrom}
use Rattle.causal_world.proofs.making.make_room_each.Given as goal

abbrev pub invariant-loop-one : goal.invariant-loop-one
invariant-loop-one l = record {
  channels : l.grid.channels ≡ l.fn.grid.channels;
  room : (i : ℕ) → HasRoomFrom l.fn.grid.channels l.grid.room (take l.one-index l.taken) i (get_or l.counts i 0);
}
