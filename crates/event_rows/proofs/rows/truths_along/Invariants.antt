use Rattle.std.proofs.Common.{◌≡◌, take}
use Rattle.dbg_base.specs.Trees.{tree_of}
use Rattle.event_rows.specs.Events.{past_of}
use Rattle.event_rows.specs.Truths.{truths_along}
use Rattle.event_rows.proofs.rows.truths_along.Given as goal

abbrev pub invariant-loop-event : goal.invariant-loop-event
invariant-loop-event l = record {
  state : l.env ≡ past_of l.fn.env l.events l.event-index;
  truths : l.truths.items ≡ truths_along (tree_of l.expr) l.fn.env (take l.event-index l.events);
}
