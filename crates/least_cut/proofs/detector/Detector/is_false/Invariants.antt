use Rattle.std.proofs.Common.{◌≡◌, false, take}
use Rattle.least_cut.specs.Searches.{is_false_in}
use Rattle.least_cut.specs.Detectors.{lines_of}
use Rattle.least_cut.proofs.detector.Detector.is_false.Given as goal

abbrev pub invariant-loop-watch : goal.invariant-loop-watch
invariant-loop-watch l = is_false_in (take l.watch-index (lines_of l.self)) l.pid.0 l.n ≡ false
