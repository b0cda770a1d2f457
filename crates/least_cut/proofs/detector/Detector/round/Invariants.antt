use Rattle.std.proofs.Common.{◌≡◌, ℕ, ◌<◌, sum, false, IsTrue}
use Rattle.least_cut.specs.Searches.{IsSettledAt}
use Rattle.least_cut.specs.Detectors.{GoesOn, lines_of}
use Rattle.least_cut.proofs.detector.Detector.round.Given as goal

abbrev pub invariant-loop-p : goal.invariant-loop-p
invariant-loop-p l = record {
  on : GoesOn l.world l.fn.self l.self;
  settled : l.moved ≡ false → (q : ℕ) → q < l.p → IsSettledAt l.world (lines_of l.self) l.self.candidates q;
  more : IsTrue l.moved → sum l.fn.self.candidates < sum l.self.candidates;
}
