use Rattle.std.proofs.Common.{arith}
use Rattle.least_cut.proofs.SearchStepLemmas.{stays, goes_on, candidates_sum}
use Rattle.least_cut.proofs.detector.Detector.run.Goals as goal

pub loop-init : goal.loop-init
loop-init c = stays _ _ c.requires.search

pub round-requires-clause-search : goal.round-requires-clause-search
round-requires-clause-search c = c.loop.invariant.search

pub loop-smaller : goal.loop-smaller
loop-smaller c =
    let most = candidates_sum c.args.world.now c.round.new.self c.requires.world c.round.ensures.on.search in
    let more = c.round.ensures.more c.loop-test.true in
    omega (arith, most, more)

pub loop-preserved : goal.loop-preserved
loop-preserved c = goes_on _ _ _ _ c.loop.invariant c.round.ensures.on

pub returns-clause-on : goal.returns-clause-on
returns-clause-on c = goes_on _ _ _ _ c.loop.invariant c.round.ensures.on
