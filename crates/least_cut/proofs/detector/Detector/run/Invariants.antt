use Rattle.std.proofs.Common.{◌-◌, sum}
use Rattle.least_cut.specs.Searches.{steps_up_to}
use Rattle.least_cut.specs.Detectors.{GoesOn}
use Rattle.least_cut.proofs.detector.Detector.run.Given as goal

abbrev pub invariant-loop : goal.invariant-loop
invariant-loop l = GoesOn l.world l.fn.self l.self

abbrev pub decreases-loop : goal.decreases-loop
decreases-loop l = steps_up_to l.world.state.places - sum l.self.candidates
