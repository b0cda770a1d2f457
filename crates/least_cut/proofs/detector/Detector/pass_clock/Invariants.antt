use Rattle.std.proofs.Common.{◌≡◌, ℕ, ◌<◌, ◌≤◌, min, sum, false, IsTrue, slice_index}
use Rattle.dbg_base.specs.SystemStates.{place_at}
use Rattle.causal_world.specs.Pasts.{row_at}
use Rattle.least_cut.specs.Detectors.{GoesOn}
use Rattle.least_cut.proofs.detector.Detector.pass_clock.Given as goal

abbrev pub invariant-loop-p : goal.invariant-loop-p
invariant-loop-p l = record {
  on : GoesOn l.world l.fn.self l.self;
  passed : (r : ℕ) → r < l.p
      → slice_index (row_at l.world.clocks l.pid.0 (min (slice_index l.fn.self.candidates l.pid.0) (place_at l.world.state l.pid.0))) r
      ≤ slice_index l.self.candidates r;
  own : slice_index l.self.candidates l.pid.0 ≡ slice_index l.fn.self.candidates l.pid.0;
  more : IsTrue l.moved → sum l.fn.self.candidates < sum l.self.candidates;
  same : l.moved ≡ false → l.self.candidates ≡ l.fn.self.candidates;
}
