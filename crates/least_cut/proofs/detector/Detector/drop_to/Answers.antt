use Rattle.std.proofs.Common.{◌≡◌, ◌++◌, ◌∷◌, [], length, set, refl, sym, ap, ◌∙◌, arith}
use Rattle.std.specs.Vec.{vec_capacity}
use Rattle.least_cut.specs.Detectors.{DetectorState}
use Rattle.least_cut.proofs.DroppedStepLemmas.{has_candidate, dropped, goes_back}
use Rattle.least_cut.proofs.detector.Detector.drop_to.Goals as goal

pub set-requires : goal.set-requires
set-requires c =
    let there = has_candidate c.requires.0 c.loop-pid.self c.pop.new.self.items c.in-Some.step
    (c.loop-pid.invariant.search c.requires.0 c.requires.1)
    (ap (λ (d : DetectorState). d.trail) (sym c.self.view_is) ∙ c.in-Some.ensures.items) in
    omega (arith, there, ap (λ (d : DetectorState). length d.candidates) c.self.view_is)

pub loop-pid-preserved : goal.loop-pid-preserved
loop-pid-preserved c =
    let step = c.in-Some.step in
    let new : DetectorState = record {
      watches = c.self.inside.watches.items;
      candidates = c.set.new.self;
      trail = c.pop.new.self.items;
      trail_room = vec_capacity c.pop.new.self;
    } in
    let trail : c.loop-pid.self.trail ≡ c.pop.new.self.items ++ step ∷ [] =
    ap (λ (d : DetectorState). d.trail) (sym c.self.view_is) ∙ c.in-Some.ensures.items in
    let watches : new.watches ≡ c.loop-pid.self.watches = ap (λ (d : DetectorState). d.watches) c.self.view_is in
    let room : new.trail_room ≡ c.loop-pid.self.trail_room =
    c.in-Some.ensures.capacity ∙ ap (λ (d : DetectorState). d.trail_room) c.self.view_is in
    let now : new.candidates ≡ set c.loop-pid.self.candidates step.pid.0 step.from =
    c.set.ensures ∙ ap (λ (d : DetectorState). set d.candidates step.pid.0 step.from) c.self.view_is in
    record {
      watches = watches ∙ c.loop-pid.invariant.watches;
      trail_room = room ∙ c.loop-pid.invariant.trail_room;
      search = λ v is. dropped v c.loop-pid.self c.pop.new.self.items step (c.loop-pid.invariant.search v is) trail new watches room
          refl now;
      most = λ v is q.
          let back = goes_back v c.loop-pid.self c.pop.new.self.items step (c.loop-pid.invariant.search v is) trail new
          watches room refl now q in
          let most = c.loop-pid.invariant.most v is q in
          omega (arith, back, most);
    }
