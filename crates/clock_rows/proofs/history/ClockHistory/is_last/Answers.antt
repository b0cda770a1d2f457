use Rattle.std.proofs.Common.{◌+◌, ◌*◌, ◌≤◌, arith, rules}
use Rattle.std.specs.Vec.{vec_len}
use Rattle.clock_rows.proofs.Histories.{row_within, ends_last}
use Rattle.clock_rows.proofs.history.ClockHistory.is_last.Goals as goal

pub overflow_mul-result : goal.overflow_mul-result
overflow_mul-result c =
    let inside : c.args.n * c.self.inside.width + c.self.inside.width ≤ vec_len c.self.inside.counts =
    row_within c.self.inside.width (vec_len c.self.inside.counts) c.self.invariant.0 c.args.n c.self.inside.counts.items
    (rw (← c.self.view_is) at c.requires) in
    omega (arith, inside, c.self.inside.counts.small)

pub overflow_add-result : goal.overflow_add-result
overflow_add-result c =
    let inside : c.args.n * c.self.inside.width + c.self.inside.width ≤ vec_len c.self.inside.counts =
    row_within c.self.inside.width (vec_len c.self.inside.counts) c.self.invariant.0 c.args.n c.self.inside.counts.items
    (rw (← c.self.view_is) at c.requires) in
    omega (arith, inside, c.self.inside.counts.small)

pub returns : goal.returns
returns c same =
    rw (← c.self.view_is) (ends_last c.self.inside.width (vec_len c.self.inside.counts) c.self.invariant.0 c.args.n c.len.result
    c.self.inside.counts.items c.len.ensures (search rules))
