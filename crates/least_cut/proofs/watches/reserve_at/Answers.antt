use Rattle.std.proofs.Common.{◌<◌, length, refl, sym, ◌∙◌, arith}
use Rattle.std.proofs.lemmas.Bool.{eqb-false}
use Rattle.least_cut.proofs.ListLoopLemmas.{became_more, became_less}
use Rattle.least_cut.proofs.WatchLoopLemmas.{IsRoomier, roomier, all_room_at}
use Rattle.least_cut.proofs.watches.reserve_at.Goals as goal
use Rattle.least_cut.proofs.watches.reserve_at.Goals.{then-eq+in_ok-reserve_to, else-eq}

pub loop-i-preserved : goal.loop-i-preserved
loop-i-preserved c =
    let here : c.loop-i.i < length c.loop-i.watches.items =
    omega (arith, c.loop-i-test.true, c.loop-i.invariant.len, c.args.watches.now.ok.0, c.len-i-end.ensures) in
    elim c.if-eq.branch [
      | then-eq+in_ok-reserve_to x ↦ rw x.watches-is (became_more c.loop-i.invariant c.index_mut-watch.ensures.value here (record {
        kept = record { state = x.reserve_to.ensures.state; grows = x.reserve_to.ensures.grows };
        room = λ same. x.in_ok-reserve_to.ensures.ok;
      }))
      | else-eq x ↦ rw x.watches-is (became_more c.loop-i.invariant c.index_mut-watch.ensures.value here (record {
        kept = record { state = refl; grows = omega arith };
        room = λ same. absurd (eqb-false c.pid.result.0 c.args.pid.0 (sym c.eq.ensures ∙ x.if-eq.false) (c.pid.ensures ∙ same));
      }))
    ]

pub returns-in_err-reserve_to-clause-each : goal.returns-in_err-reserve_to-clause-each
returns-in_err-reserve_to-clause-each c =
    let more : IsRoomier c.index_mut-watch.result.now c.reserve_to.new.self =
    record { state = c.reserve_to.ensures.state; grows = c.reserve_to.ensures.grows } in
    roomier (became_more (became_less c.loop-i.invariant (λ a b r. r.kept)) c.index_mut-watch.ensures.value
    (omega (arith, c.loop-i-test.true, c.loop-i.invariant.len, c.args.watches.now.ok.0, c.len-i-end.ensures)) more)

pub returns-clause-each : goal.returns-clause-each
returns-clause-each c = roomier (became_less c.loop-i.invariant (λ a b r. r.kept))

pub returns-clause-ok : goal.returns-clause-ok
returns-clause-ok c = all_room_at c.loop-i.invariant (omega (arith, c.loop-i-test.false, c.args.watches.now.ok.0, c.len-i-end.ensures))
