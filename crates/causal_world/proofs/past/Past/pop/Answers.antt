use Rattle.std.proofs.Common.{◌<◌, length, get_or, [], arith, rules}
use Rattle.causal_world.proofs.ClockRows.{popped_past, same_past, as_many, has_events}
use Rattle.causal_world.proofs.past.Past.pop.Goals as goal

pub invariant_of-self : goal.invariant_of-self
invariant_of-self c =
    let inside = c.self.inside in
    let p = c.args.pid.0 in
    let taken : 0 < length (get_or inside.rows.events p []) = search rules in
    let some : 0 < length (get_or inside.tally.kinds p []) =
    omega (arith, taken, as_many inside.rows.events inside.tally.kinds inside.clocks.rows p c.self.invariant) in
    same_past c.pop-2.ensures.events c.unnote.ensures.kinds c.pop.ensures.rows
    (popped_past _ _ _ p (has_events inside.tally.kinds p some) c.self.invariant some (rw (← c.self.view_is) at c.requires.whole))
