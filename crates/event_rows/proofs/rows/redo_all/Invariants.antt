use Rattle.std.proofs.Common.{◌≡◌, drop}
use Rattle.event_rows.specs.Events.{after_events}
use Rattle.event_rows.proofs.rows.redo_all.Given as goal

abbrev pub invariant-loop-event : goal.invariant-loop-event
invariant-loop-event l = after_events l.env (drop l.event-index l.events) ≡ after_events l.fn.env l.events
