use Rattle.std.proofs.Common.{◌<◌, length, set, ◌++◌, ◌∷◌, [], ap, ◌∙◌, rules, arith}
use Rattle.least_cut.specs.Detectors.{DetectorState}
use Rattle.least_cut.proofs.SearchStepLemmas.{candidates_sized, has_room, steps_on}
use Rattle.least_cut.proofs.detector.Detector.eliminate.Goals as goal

pub set-requires : goal.set-requires
set-requires c =
    let size = candidates_sized c.args.world.now c.args.self.now c.requires.search in
    let here = c.requires.step.here in
    rw (← c.self.view_is) at (let lt : c.args.step.pid.0 < length c.args.self.now.candidates = omega (arith, size, here) in lt)

pub push_reserved-requires : goal.push_reserved-requires
push_reserved-requires c =
    let room = rw (← c.self.view_is) at
    (has_room c.args.world.now c.args.self.now c.requires.world c.requires.search c.args.step c.requires.step) in
    (search rules)

pub returns-clause-on : goal.returns-clause-on
returns-clause-on c =
    steps_on c.args.world.now c.args.self.now _ c.args.step c.requires.search c.requires.step
    (ap (λ (d : DetectorState). d.watches) c.self.view_is)
    (c.set.ensures ∙ ap (λ (d : DetectorState). set d.candidates c.args.step.pid.0 c.args.step.to) c.self.view_is)
    (c.push_reserved.ensures.items ∙ ap (λ (d : DetectorState). d.trail ++ c.args.step ∷ []) c.self.view_is)
    (c.push_reserved.ensures.capacity ∙ ap (λ (d : DetectorState). d.trail_room) c.self.view_is)
