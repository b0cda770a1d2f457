use Rattle.std.proofs.Common.{◌≡◌, ◌≢◌, ℕ, ◌+◌, ◌-◌, slice_index}
use Rattle.least_cut.specs.Detectors.{GoesOn}
use Rattle.least_cut.proofs.detector.Detector.pass_false.Given as goal

abbrev pub invariant-loop-self : goal.invariant-loop-self
invariant-loop-self l = record {
  on : GoesOn l.world l.fn.self l.self;
  others : (r : ℕ) → r ≢ l.pid.0 → slice_index l.self.candidates r ≡ slice_index l.fn.self.candidates r;
}

abbrev pub decreases-loop-self : goal.decreases-loop-self
decreases-loop-self l = l.place + 1 - slice_index l.self.candidates l.pid.0
