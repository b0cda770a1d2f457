use Rattle.std.proofs.Common.{◌≡◌, ℕ, ◌+◌, ◌≤◌, refl, sym, subst, arith}
use Rattle.std.specs.List.{AllByRecursion}
use Rattle.std.specs.Vec.{vec_capacity}
use Rattle.std.proofs.lemmas.Result.{on_ok_weaker}
use Rattle.least_cut.specs.Watches.{WatchRoom}
use Rattle.least_cut.specs.Detectors.{DetectorState, HasTruthRoom, HasRoomUpTo, one_more}
use Rattle.least_cut.specs.Searches.{steps_up_to}
use Rattle.least_cut.proofs.WatchLoopLemmas.{same_but_room, one_more_room}
use Rattle.least_cut.proofs.detector.Detector.reserve.Goals as goal

pub returns-in_err-reserve_at-clause-same : goal.returns-in_err-reserve_at-clause-same
returns-in_err-reserve_at-clause-same c =
    rw (← c.self.view_is) (same_but_room _ _ c.reserve_at.ensures.each refl refl (omega arith))

pub returns-clause-same : goal.returns-clause-same
returns-clause-same c =
    rw (← c.self.view_is) (same_but_room _ _ c.reserve_at.ensures.each refl c.reserve_total.ensures.items
    (omega (arith, c.reserve_total.ensures.grows)))

pub returns-clause-ok : goal.returns-clause-ok
returns-clause-ok c =
    let w = c.args.world.now in
    on_ok_weaker c.reserve_total.result
    (λ (more : c.args.steps ≤ vec_capacity c.reserve_total.new.items)
    (had : HasRoomUpTo c.args.self.now w.state.places) (few : steps_up_to (one_more w c.args.pid.0) ≤ c.args.steps). record {
      truths = one_more_room w c.args.pid.0 c.self.inside.watches.items c.reserve_at.new.watches.items c.reserve_at.ensures.each
          (subst (λ (n : ℕ). AllByRecursion (λ (watch : WatchRoom). watch.state.line.process ≡ c.args.pid.0 → n + 2 ≤ watch.room)
          c.reserve_at.new.watches.items) c.place.ensures c.in_ok-reserve_at.ensures.ok)
          (subst (λ (d : DetectorState). AllByRecursion (HasTruthRoom w.state.places) d.watches) (sym c.self.view_is) had.truths);
      trail = omega (arith, more, few);
    })
    c.reserve_total.ensures.ok
