use Rattle.std.proofs.Common.{subst, sym, rules, arith}
use Rattle.std.proofs.lemmas.Grind.{common_steps}
use Rattle.cut_core.specs.declared.kind.Kind.{Kind}
use Rattle.causal_world.specs.Pasts.{IsPast, IsWhole, with_kind}
use Rattle.causal_world.proofs.ClockRows.{fits_row, pushed_past, same_past}
use Rattle.causal_world.proofs.past.Past.push.Goals as goal
use Rattle.causal_world.proofs.past.Past.push.Goals.{After-note}

pub push_joined-requires-clause-fits : goal.push_joined-requires-clause-fits
push_joined-requires-clause-fits c =
    fits_row _ _ _ c.args.pid.0 (rw (← c.self.view_is) at c.requires.here) c.self.invariant c.cause-n.result.0.0 c.cause-n.result.1
    c.args.kind c.cause-n.ensures (rw (← c.self.view_is) at c.requires.few)

after : (c : After-note) → IsPast c.push.new.self.events c.note.new.self.kinds c.push_joined.new.self.rows
after c =
    let inside = c.self.inside in
    let p = c.args.pid.0 in
    same_past c.push.ensures.events c.note.ensures.kinds c.push_joined.ensures.rows
    (pushed_past _ _ _ p (rw (← c.self.view_is) at c.requires.here) c.self.invariant c.cause-n.result.0.0 c.cause-n.result.1
    c.args.kind c.args.event
    (subst (λ (k : Kind). IsWhole (with_kind inside.tally.kinds p k)) (sym c.requires.kind)
    (rw (← c.self.view_is) at c.requires.whole)) c.cause-n.ensures)

pub invariant_of-self : goal.invariant_of-self
invariant_of-self c = after (goal.at.invariant_of-self c).After-note

pub returns : goal.returns
returns c = record {
  starts = search rules;
  events = search rules;
  kinds = search rules;
  clocks = (after (goal.at.returns c).After-note).rows;
  own = grind (arith, common_steps);
  others = search rules;
}
