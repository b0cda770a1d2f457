use Rattle.std.proofs.Common.{◌≡◌, take}
use Rattle.event_rows.proofs.history.copy_events.Given as goal

abbrev pub invariant-loop-event : goal.invariant-loop-event
invariant-loop-event l = l.made.items ≡ take l.event-index l.events.items
