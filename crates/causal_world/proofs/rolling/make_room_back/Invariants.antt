use Rattle.std.proofs.Common.{◌≡◌, ℕ, ◌+◌, ◌<◌, ◌≤◌, [], length, get_or}
use Rattle.cut_core.specs.Tallies.{got_by}
use Rattle.fifo_grid.specs.Grids.{room_at}
use Rattle.causal_world.proofs.rolling.make_room_back.Given as goal

abbrev pub invariant-loop-j : goal.invariant-loop-j
invariant-loop-j l = record {
  channels : l.grid.channels ≡ l.fn.grid.channels;
  room : (i j : ℕ) → i < length l.tally.kinds → j < l.j → i < length l.fn.grid.channels → j < length (get_or l.fn.grid.channels i [])
      → got_by l.tally.kinds j i (length (get_or l.tally.kinds j []))
      ≤ got_by l.tally.kinds j i (get_or l.cut j 0) + room_at l.grid.room i j;
}
