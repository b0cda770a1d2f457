use Rattle.std.proofs.Common.{◌+◌, ◌≤◌, inr, sym, ◌∙◌, arith}
use Rattle.dbg_base.specs.SystemStates.{place_at}
use Rattle.least_cut.proofs.WatchLoopLemmas.{past_within}
use Rattle.least_cut.proofs.detector.Detector.limit.Goals as goal

pub returns-then-is_past : goal.returns-then-is_past
returns-then-is_past c = λ v some search.
    let past : place_at v.state c.args.pid.0 + 1 ≤ c.place-place.result + 1 =
    past_within v c.args.self.now.watches c.args.pid.0 (c.place-place.result + 1) some search.watches
    (sym c.is_past.ensures ∙ c.if-is_past.true) in
    record { most = omega (arith, c.place-place.ensures); kept = inr (omega (arith, past, c.place-place.ensures)) }
