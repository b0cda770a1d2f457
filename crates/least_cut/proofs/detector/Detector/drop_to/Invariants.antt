use Rattle.std.proofs.Common.{◌≡◌, length}
use Rattle.dbg_base.specs.Cuts.{IsAtMost}
use Rattle.causal_world.specs.Scenes.{Scene}
use Rattle.least_cut.specs.Detectors.{IsSearchOf}
use Rattle.least_cut.proofs.detector.Detector.drop_to.Given as goal

abbrev pub invariant-loop-pid : goal.invariant-loop-pid
invariant-loop-pid l = record {
  watches : l.self.watches ≡ l.fn.self.watches;
  trail_room : l.self.trail_room ≡ l.fn.self.trail_room;
  search : (v : Scene) → IsSearchOf v l.fn.self → IsSearchOf v l.self;
  most : (v : Scene) → IsSearchOf v l.fn.self → IsAtMost l.self.candidates l.fn.self.candidates;
}

abbrev pub decreases-loop-pid : goal.decreases-loop-pid
decreases-loop-pid l = length l.self.trail
