use Rattle.std.proofs.Common.{◌≡◌, ℕ, get_or, ◌∙◌, subst}
use Rattle.event_rows.specs.declared.exchange.Exchange.{Exchange}
use Rattle.causal_world.specs.Room.{HasRoomsAfter}
use Rattle.causal_world.proofs.Inverses.{room_from_next}
use Rattle.causal_world.proofs.making.make_room_each.Goals as goal

pub loop-one-preserved : goal.loop-one-preserved
loop-one-preserved c =
    let new = c.make_room_after.new.grid in
    let t = c.one-item.result in
    let counts = c.args.counts.now in
    let made = c.in_ok-make_room_after.ensures in
    record {
      channels = made.kept ∙ c.loop-one.invariant.channels;
      room = λ i. room_from_next c.args.grid.now.channels c.loop-one.grid.room new c.args.taken.now c.loop-one.one-index i
          (get_or counts i 0) t c.loop-one-test.true c.one-item.is (made.kept ∙ c.loop-one.invariant.channels) made.grows
          (λ (own : t.pid.0 ≡ i). subst (λ (x : ℕ). HasRoomsAfter new x t.event.exchange (get_or counts x 0)) own
          (subst (λ (m : ℕ). HasRoomsAfter new t.pid.0 t.event.exchange m) c.count_for-more.ensures
          (subst (λ (x : Exchange). HasRoomsAfter new t.pid.0 x c.count_for-more.result) c.exchange.ensures made.room)))
          (c.loop-one.invariant.room i);
    }
