use Rattle.std.proofs.Common.{subst, sym, inr}
use Rattle.least_cut.specs.Detectors.{AreWatchesOf}
use Rattle.least_cut.proofs.MovedDetectorLemmas.{were_watches}
use Rattle.least_cut.proofs.GrownDetectorLemmas.{one_earlier, shrunk_room, shrunk_search}
use Rattle.least_cut.proofs.detector.Detector.shrink.Goals as goal

pub watch-requires-clause-was : goal.watch-requires-clause-was
watch-requires-clause-was c =
    let g = c.requires.shrunk in
    were_watches g.1 c.args.world.now c.drop_to.new.self.watches (g.0, g.2.of)
    (inr (one_earlier g.0 c.args.world.now g.1 c.args.pid.0 g.2.now g.2.of g.3))
    (subst (AreWatchesOf g.1) (sym c.drop_to.ensures.watches) g.2.detector.search.watches)

pub watch-requires-clause-room : goal.watch-requires-clause-room
watch-requires-clause-room c =
    let g = c.requires.shrunk in
    (shrunk_room g.0 g.1 c.args.world.now c.args.pid.0 c.limit-limit.result c.args.self.now c.drop_to.new.self c.drop_to.new.self g.2 g.3
    (c.limit-limit.ensures g.1 (g.0, g.2.of) g.2.detector.search) c.drop_to.ensures).truths

pub run-requires-clause-search : goal.run-requires-clause-search
run-requires-clause-search c =
    let g = c.requires.shrunk in
    shrunk_search g.0 g.1 c.args.world.now c.args.pid.0 c.limit-limit.result c.args.self.now c.drop_to.new.self c.watch.new.self g.2 g.3
    (c.limit-limit.ensures g.1 (g.0, g.2.of) g.2.detector.search) c.drop_to.ensures c.watch.ensures
