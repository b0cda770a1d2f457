use Rattle.std.proofs.Common.{◌≡◌, map, take}
use Rattle.ui_timeline.proofs.listing.numbered.Given as goal

abbrev pub invariant-loop-pid : goal.invariant-loop-pid
invariant-loop-pid l = map (λ shown. shown.pid.0) l.events.items ≡ map (λ pid. pid.0) (take l.pid-index l.order)
