use Rattle.std.proofs.Common.{◌≡◌, take}
use Rattle.std.specs.Vec.{vec_capacity}
use Rattle.dbg_base.proofs.ids.Cut.copy_into.Given as goal

abbrev pub invariant-loop-count : goal.invariant-loop-count
invariant-loop-count l = (l.counts.items ≡ take l.count-index l.self) × (vec_capacity l.counts ≡ vec_capacity l.fn.room)
