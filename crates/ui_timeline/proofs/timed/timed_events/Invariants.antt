use Rattle.std.proofs.Common.{map}
use Rattle.ui_timeline.proofs.EventClockLemmas.{AreTimed}
use Rattle.ui_timeline.proofs.timed.timed_events.Given as goal

abbrev pub invariant-loop-pid : goal.invariant-loop-pid
invariant-loop-pid l = AreTimed l.world (map (λ pid. pid.0) l.pid-items) l.reported l.pid-index l.events.items
