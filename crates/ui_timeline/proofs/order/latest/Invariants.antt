use Rattle.std.proofs.Common.{map}
use Rattle.ui_timeline.proofs.UndoneOrderLemmas.{IsBest}
use Rattle.ui_timeline.proofs.order.latest.Given as goal

abbrev pub invariant-loop-p : goal.invariant-loop-p
invariant-loop-p l = IsBest (map (λ c. c.now) l.cuts) l.world l.p l.best
