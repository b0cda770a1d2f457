use Rattle.std.proofs.Common.{◌+◌, ◌*◌, ◌≤◌, arith, rules}
use Rattle.std.specs.Vec.{vec_len}
use Rattle.clock_rows.proofs.Histories.{row_within, row_read}
use Rattle.clock_rows.proofs.history.ClockHistory.row.Goals as goal

pub overflow_mul-start : goal.overflow_mul-start
overflow_mul-start c =
    let inside : c.args.n * c.self.inside.width + c.self.inside.width ≤ vec_len c.self.inside.counts =
    row_within c.self.inside.width (vec_len c.self.inside.counts) c.self.invariant.0 c.args.n c.self.inside.counts.items
    (rw (← c.self.view_is) at c.requires) in
    omega (arith, inside, c.self.inside.counts.small)

pub overflow_add-result : goal.overflow_add-result
overflow_add-result c =
    let inside : c.args.n * c.self.inside.width + c.self.inside.width ≤ vec_len c.self.inside.counts =
    row_within c.self.inside.width (vec_len c.self.inside.counts) c.self.invariant.0 c.args.n c.self.inside.counts.items
    (rw (← c.self.view_is) at c.requires) in
    omega (arith, inside, c.deref.ensures.len, c.deref.type_inv.0)

pub offset_bounds-deref-start : goal.offset_bounds-deref-start
offset_bounds-deref-start c =
    let inside : c.args.n * c.self.inside.width + c.self.inside.width ≤ vec_len c.self.inside.counts =
    row_within c.self.inside.width (vec_len c.self.inside.counts) c.self.invariant.0 c.args.n c.self.inside.counts.items
    (rw (← c.self.view_is) at c.requires) in
    omega (arith, inside, c.deref.ensures.len, c.deref.type_inv.1)

pub slice_bounds-result-end : goal.slice_bounds-result-end
slice_bounds-result-end c =
    let inside : c.args.n * c.self.inside.width + c.self.inside.width ≤ vec_len c.self.inside.counts =
    row_within c.self.inside.width (vec_len c.self.inside.counts) c.self.invariant.0 c.args.n c.self.inside.counts.items
    (rw (← c.self.view_is) at c.requires) in
    let d = c.deref.ensures in let ok = c.self.inside.counts.ok in let sm = c.self.inside.counts.small in search rules

pub returns-clause-row : goal.returns-clause-row
returns-clause-row c =
    rw (← c.self.view_is) (row_read c.self.inside.width (vec_len c.self.inside.counts) c.self.invariant.0 c.args.n
    c.self.inside.counts.items c.deref.result.now (rw (← c.self.view_is) at c.requires) c.deref.ensures.value)
