use Rattle.std.proofs.Common.{arith}
use Rattle.std.specs.Vec.{vec_len}
use Rattle.clock_rows.proofs.Histories.{whole_popped, rows_popped}
use Rattle.clock_rows.proofs.history.ClockHistory.pop.Goals as goal

pub invariant_of-self : goal.invariant_of-self
invariant_of-self c = (
  whole_popped c.self.inside.width (vec_len c.self.inside.counts) c.self.invariant.0 (vec_len c.truncate.new.self) c.len.result
      c.len.ensures c.truncate.ensures.len c.self.inside.counts.items (rw (← c.self.view_is) at c.requires),
  omega (arith, c.self.invariant.1, c.truncate.ensures.capacity, c.truncate.ensures.len),
)

pub returns-clause-rows : goal.returns-clause-rows
returns-clause-rows c =
    rw (← c.self.view_is) (rows_popped c.self.inside.width (vec_len c.self.inside.counts) c.self.invariant.0
    (vec_len c.truncate.new.self) c.len.result c.len.ensures c.truncate.ensures.len c.self.inside.counts.items
    c.truncate.new.self.items c.truncate.ensures.items)
