use Rattle.std.proofs.Common.{rules}
use Rattle.causal_world.specs.Pasts.{IsPast}
use Rattle.causal_world.proofs.ClockRows.{opens_past}
use Rattle.causal_world.proofs.past.Past.new.Goals as goal

pub invariant_of-result : goal.invariant_of-result
invariant_of-result c = opens_past _ _ _ _ c.in_ok-new.ensures.events (search rules) (search rules)

pub returns-clause-clocks : goal.returns-clause-clocks
returns-clause-clocks c =
    let past : IsPast c.in_ok-new.field-0.events c.in_ok-new-2.field-0.kinds c.in_ok-new-3.field-0.rows =
    opens_past _ _ _ _ c.in_ok-new.ensures.events (search rules) (search rules) in
    past.rows
