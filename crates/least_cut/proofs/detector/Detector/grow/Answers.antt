use Rattle.std.proofs.Common.{◌∙◌, sym, inl, inr}
use Rattle.least_cut.proofs.MovedDetectorLemmas.{were_watches}
use Rattle.least_cut.proofs.GrownDetectorLemmas.{one_earlier, others_watched, grown_search, grown_settled, settled_alone}
use Rattle.least_cut.proofs.detector.Detector.grow.Goals as goal

pub watch_process-requires-clause-was : goal.watch_process-requires-clause-was
watch_process-requires-clause-was c =
    let g = c.requires.grown in
    were_watches g.1 c.args.world.now c.args.self.now.watches (g.0, g.2.of)
    (inl (one_earlier g.0 g.1 c.args.world.now c.args.pid.0 g.2.of g.2.now g.4)) g.2.detector.search.watches

pub watch_process-requires-clause-others : goal.watch_process-requires-clause-others
watch_process-requires-clause-others c =
    let g = c.requires.grown in
    others_watched g.0 g.1 c.args.world.now c.args.pid.0 g.2.of g.2.now g.4 c.args.self.now.watches g.2.detector.search.watches

pub settle-requires-clause-search : goal.settle-requires-clause-search
settle-requires-clause-search c =
    let g = c.requires.grown in
    grown_search g.0 g.1 c.args.world.now c.args.pid.0 c.args.self.now c.watch_process.new.self g.2 g.3 g.4 c.watch_process.ensures c.requires.room

pub returns-then-candidate-place-clause-of : goal.returns-then-candidate-place-clause-of
returns-then-candidate-place-clause-of c =
    let g = c.requires.grown in
    record {
      search = grown_search g.0 g.1 c.args.world.now c.args.pid.0 c.args.self.now c.watch_process.new.self g.2 g.3 g.4 c.watch_process.ensures
          c.requires.room;
      settled = λ q here. grown_settled g.0 g.1 c.args.world.now c.args.pid.0 c.args.self.now c.watch_process.new.self g.2 g.3 g.4 c.watch_process.ensures
          c.requires.room q here (inr (λ same. c.if-candidate-place.true (c.candidate.ensures ∙ same ∙ sym c.place.ensures)));
    }

pub returns-else-settle-clause-of : goal.returns-else-settle-clause-of
returns-else-settle-clause-of c =
    let g = c.requires.grown in
    settled_alone g.0 g.1 c.args.world.now c.args.pid.0 c.args.self.now c.watch_process.new.self g.2 g.3 g.4 c.watch_process.ensures c.requires.room
    c.settle.new.self c.settle.ensures.on c.settle.ensures.settled (c.settle.ensures.others c.if-settle.false)
