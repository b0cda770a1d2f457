use Rattle.std.proofs.Common.{arith}
use Rattle.least_cut.specs.Watches.{WatchRoom, WasWatchOf}
use Rattle.least_cut.specs.Detectors.{HasTruthRoom}
use Rattle.least_cut.proofs.ListLoopLemmas.{became_more, at_turn}
use Rattle.least_cut.proofs.WatchLoopLemmas.{all_watched}
use Rattle.least_cut.proofs.watches.watch_each.Goals as goal

pub follow-requires-clause-was : goal.follow-requires-clause-was
follow-requires-clause-was c =
    at_turn c.loop-i.invariant c.index_mut-watch.ensures.value
    (omega (arith, c.loop-i-test.true, c.loop-i.invariant.len, c.args.watches.now.ok.0, c.len-i-end.ensures))
    (λ (watch : WatchRoom). WasWatchOf watch.state c.args.world.now) c.requires.was

pub follow-requires-clause-room : goal.follow-requires-clause-room
follow-requires-clause-room c =
    at_turn c.loop-i.invariant c.index_mut-watch.ensures.value
    (omega (arith, c.loop-i-test.true, c.loop-i.invariant.len, c.args.watches.now.ok.0, c.len-i-end.ensures))
    (HasTruthRoom c.args.world.now.state.places) c.requires.room

pub loop-i-preserved : goal.loop-i-preserved
loop-i-preserved c =
    became_more c.loop-i.invariant c.index_mut-watch.ensures.value
    (omega (arith, c.loop-i-test.true, c.loop-i.invariant.len, c.args.watches.now.ok.0, c.len-i-end.ensures))
    (record { is = c.follow.ensures.of; conjunct = c.follow.ensures.conjunct; room = c.follow.ensures.room })

pub returns : goal.returns
returns c = all_watched c.loop-i.invariant (omega (arith, c.loop-i-test.false, c.args.watches.now.ok.0, c.len-i-end.ensures))
