use Rattle.std.proofs.Common.{sym}
use Rattle.std.specs.Vec.{vec_len}
use Rattle.clock_rows.proofs.Histories.{last_read}
use Rattle.clock_rows.proofs.history.ClockHistory.last.Goals as goal

pub returns-clause-row : goal.returns-clause-row
returns-clause-row c =
    rw (← c.self.view_is) (last_read c.self.inside.width (vec_len c.self.inside.counts) c.self.invariant.0 c.len.result
    c.self.inside.counts.items c.deref.result.now c.len.ensures (sym c.self.inside.counts.ok.0) c.deref.ensures.value)
