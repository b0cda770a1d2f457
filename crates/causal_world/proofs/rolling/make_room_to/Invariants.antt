use Rattle.std.proofs.Common.{◌≡◌, ℕ, ◌+◌, ◌<◌, ◌≤◌, [], length, get_or}
use Rattle.cut_core.specs.Tallies.{got_by}
use Rattle.fifo_grid.specs.Grids.{room_at}
use Rattle.causal_world.proofs.rolling.make_room_to.Given as goal

abbrev pub invariant-loop-i : goal.invariant-loop-i
invariant-loop-i l = record {
  channels : l.grid.channels ≡ l.fn.grid.channels;
  grows : (i j : ℕ) → room_at l.fn.grid.room i j ≤ room_at l.grid.room i j;
  room : (i : ℕ) → i < l.i → i < length l.fn.grid.channels → l.to.0 < length (get_or l.fn.grid.channels i [])
      → got_by l.tally.kinds l.to.0 i (length (get_or l.tally.kinds l.to.0 []))
      ≤ got_by l.tally.kinds l.to.0 i l.count + room_at l.grid.room i l.to.0;
}
