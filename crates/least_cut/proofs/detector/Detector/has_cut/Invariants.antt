use Rattle.std.proofs.Common.{◌≡◌, false, take}
use Rattle.std.specs.List.{list_any}
use Rattle.least_cut.specs.Detectors.{lines_of, is_own_past}
use Rattle.least_cut.proofs.detector.Detector.has_cut.Given as goal

abbrev pub invariant-loop-watch : goal.invariant-loop-watch
invariant-loop-watch l = list_any (is_own_past l.self.candidates) (take l.watch-index (lines_of l.self)) ≡ false
