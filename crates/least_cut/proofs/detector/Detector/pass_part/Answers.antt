use Rattle.least_cut.proofs.SearchStepLemmas.{candidates_sized, part_step, passes_part, part_sum}
use Rattle.least_cut.proofs.detector.Detector.pass_part.Goals as goal

pub eliminate-requires-clause-step : goal.eliminate-requires-clause-step
eliminate-requires-clause-step c =
    part_step c.args.world.now c.args.self.now c.requires.world c.args.pid c.args.of c.args.event c.candidate-from.result
    c.clock_part-to.result c.requires.here c.requires.of c.requires.event c.candidate-from.ensures c.clock_part-to.ensures.row
    c.if-to-from.false

pub returns-clause-part : goal.returns-clause-part
returns-clause-part c =
    passes_part c.args.world.now c.args.self.now c.requires.world c.args.pid c.args.of c.args.event c.candidate-from.result
    c.clock_part-to.result c.requires.here c.requires.of c.requires.event c.candidate-from.ensures c.clock_part-to.ensures.row
    c.if-to-from.false
    c.eliminate.new.self.candidates (candidates_sized _ _ c.requires.search) c.eliminate.ensures.set

pub returns-clause-more : goal.returns-clause-more
returns-clause-more c = λ moved.
    part_sum c.args.world.now c.args.self.now c.requires.world c.args.pid c.args.of c.args.event c.candidate-from.result
    c.clock_part-to.result c.requires.here c.requires.of c.requires.event c.candidate-from.ensures c.clock_part-to.ensures.row
    c.if-to-from.false
    c.eliminate.new.self.candidates (candidates_sized _ _ c.requires.search) c.eliminate.ensures.set
