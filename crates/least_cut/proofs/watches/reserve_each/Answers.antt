use Rattle.std.proofs.Common.{◌≡◌, ℕ, get_or, ap, sym, ◌∙◌, arith}
use Rattle.least_cut.specs.Watches.{WatchState}
use Rattle.least_cut.proofs.ListLoopLemmas.{became_more, became_less}
use Rattle.least_cut.proofs.WatchLoopLemmas.{IsRoomier, roomier, all_room_for}
use Rattle.least_cut.proofs.watches.reserve_each.Goals as goal

pub loop-i-preserved : goal.loop-i-preserved
loop-i-preserved c =
    let events : c.count-events.result ≡ get_or c.args.cut.now c.reserve_to.new.self.state.line.process 0 =
    c.count-events.ensures ∙ ap (λ (p : ℕ). get_or c.args.cut.now p 0)
    (c.pid.ensures ∙ ap (λ (s : WatchState). s.line.process) (sym c.reserve_to.ensures.state)) in
    became_more c.loop-i.invariant c.index_mut-watch.ensures.value
    (omega (arith, c.loop-i-test.true, c.loop-i.invariant.len, c.args.watches.now.ok.0, c.len-i-end.ensures))
    (record {
      kept = record { state = c.reserve_to.ensures.state; grows = c.reserve_to.ensures.grows };
      room = omega (arith, events, c.in_ok-reserve_to.ensures.ok);
    })

pub returns-in_err-reserve_to-clause-each : goal.returns-in_err-reserve_to-clause-each
returns-in_err-reserve_to-clause-each c =
    let more : IsRoomier c.index_mut-watch.result.now c.reserve_to.new.self =
    record { state = c.reserve_to.ensures.state; grows = c.reserve_to.ensures.grows } in
    roomier (became_more (became_less c.loop-i.invariant (λ a b r. r.kept)) c.index_mut-watch.ensures.value
    (omega (arith, c.loop-i-test.true, c.loop-i.invariant.len, c.args.watches.now.ok.0, c.len-i-end.ensures)) more)

pub returns-clause-each : goal.returns-clause-each
returns-clause-each c = roomier (became_less c.loop-i.invariant (λ a b r. r.kept))

pub returns-clause-ok : goal.returns-clause-ok
returns-clause-ok c = all_room_for c.loop-i.invariant (omega (arith, c.loop-i-test.false, c.args.watches.now.ok.0, c.len-i-end.ensures))
