use Rattle.std.proofs.Common.{◌≡◌, ℕ, ◌<◌, length, get_or}
use Rattle.dbg_base.specs.declared.said.Head.TheVariants.{Past}
use Rattle.least_cut.specs.Detectors.{lines_of, reported_head}
use Rattle.least_cut.proofs.detector.Detector.frontier.Given as goal

abbrev pub invariant-loop-p : goal.invariant-loop-p
invariant-loop-p l = record {
  len : length l.heads.items ≡ l.p;
  each : (p : ℕ) → p < l.p → get_or l.heads.items p Past ≡ reported_head (lines_of l.self) p (get_or l.self.candidates p 0);
}
