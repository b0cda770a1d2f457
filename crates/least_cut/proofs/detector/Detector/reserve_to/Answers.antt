use Rattle.std.proofs.Common.{refl, arith}
use Rattle.least_cut.proofs.WatchLoopLemmas.{same_but_room}
use Rattle.least_cut.proofs.detector.Detector.reserve_to.Goals as goal

pub returns-in_err-reserve_each-clause-same : goal.returns-in_err-reserve_each-clause-same
returns-in_err-reserve_each-clause-same c =
    rw (← c.self.view_is) (same_but_room _ _ c.reserve_each.ensures.each refl refl (omega arith))

pub returns-clause-same : goal.returns-clause-same
returns-clause-same c =
    rw (← c.self.view_is) (same_but_room _ _ c.reserve_each.ensures.each refl c.reserve_total.ensures.items
    (omega (arith, c.reserve_total.ensures.grows)))
