use Rattle.std.proofs.Common.{◌≡◌, false, take}
use Rattle.least_cut.specs.Detectors.{lines_of, is_past_in}
use Rattle.least_cut.proofs.detector.Detector.head.Given as goal

abbrev pub invariant-loop-watch : goal.invariant-loop-watch
invariant-loop-watch l = is_past_in (take l.watch-index (lines_of l.self)) l.p l.n ≡ false
