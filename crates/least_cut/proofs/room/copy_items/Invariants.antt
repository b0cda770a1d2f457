use Rattle.std.proofs.Common.{◌≡◌, take}
use Rattle.std.specs.Vec.{vec_capacity}
use Rattle.least_cut.proofs.room.copy_items.Given as goal

abbrev pub invariant-loop-item : goal.invariant-loop-item
invariant-loop-item g l = record {
  items : l.made.items ≡ take l.item-index l.items.items;
  room : vec_capacity l.made ≡ vec_capacity l.items;
}
