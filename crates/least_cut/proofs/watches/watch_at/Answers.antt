use Rattle.std.proofs.Common.{◌≢◌, ◌<◌, length, refl, sym, ◌∙◌, arith}
use Rattle.std.proofs.lemmas.Bool.{eqb-false}
use Rattle.least_cut.specs.Watches.{WatchRoom, IsWatchOf, WasWatchOf}
use Rattle.least_cut.specs.Detectors.{HasTruthRoom}
use Rattle.least_cut.proofs.ListLoopLemmas.{became_more, at_turn}
use Rattle.least_cut.proofs.WatchLoopLemmas.{all_watched}
use Rattle.least_cut.proofs.watches.watch_at.Goals as goal
use Rattle.least_cut.proofs.watches.watch_at.Goals.{then-eq, else-eq}

pub follow-requires-clause-was : goal.follow-requires-clause-was
follow-requires-clause-was c =
    at_turn c.loop-i.invariant c.index_mut-watch.ensures.value
    (omega (arith, c.loop-i-test.true, c.loop-i.invariant.len, c.args.watches.now.ok.0, c.len-i-end.ensures))
    (λ (watch : WatchRoom). WasWatchOf watch.state c.args.world.now) c.requires.was

pub follow-requires-clause-room : goal.follow-requires-clause-room
follow-requires-clause-room c =
    at_turn c.loop-i.invariant c.index_mut-watch.ensures.value
    (omega (arith, c.loop-i-test.true, c.loop-i.invariant.len, c.args.watches.now.ok.0, c.len-i-end.ensures))
    (HasTruthRoom c.args.world.now.state.places) c.requires.room

pub loop-i-preserved : goal.loop-i-preserved
loop-i-preserved c =
    let here : c.loop-i.i < length c.loop-i.watches.items =
    omega (arith, c.loop-i-test.true, c.loop-i.invariant.len, c.args.watches.now.ok.0, c.len-i-end.ensures) in
    elim c.if-eq.branch [
      | then-eq x ↦ rw x.watches-is (became_more c.loop-i.invariant c.index_mut-watch.ensures.value here
          (record { is = x.follow.ensures.of; conjunct = x.follow.ensures.conjunct; room = x.follow.ensures.room }))
      | else-eq x ↦ rw x.watches-is (became_more c.loop-i.invariant c.index_mut-watch.ensures.value here (record {
        is = at_turn c.loop-i.invariant c.index_mut-watch.ensures.value here
            (λ (watch : WatchRoom). watch.state.line.process ≢ c.args.pid.0 → IsWatchOf c.args.world.now watch.state) c.requires.others
            (λ same. eqb-false c.pid.result.0 c.args.pid.0 (sym c.eq.ensures ∙ x.if-eq.false) (c.pid.ensures ∙ same));
        conjunct = refl;
        room = refl;
      }))
    ]

pub returns : goal.returns
returns c = all_watched c.loop-i.invariant (omega (arith, c.loop-i-test.false, c.args.watches.now.ok.0, c.len-i-end.ensures))
