use Rattle.std.proofs.Common.{arith}
use Rattle.least_cut.proofs.SearchStepLemmas.{on_sum}
use Rattle.least_cut.proofs.detector.Detector.settle.Goals as goal

pub returns-clause-more : goal.returns-clause-more
returns-clause-more c = λ moved.
    let more = c.pass_clock.ensures.more moved in
    let least = on_sum c.args.world.now c.args.self.now c.pass_false.new.self c.requires.search c.pass_false.ensures.on in
    omega (arith, more, least)
