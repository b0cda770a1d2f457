use Rattle.std.proofs.Common.{◌<◌, length, ap, arith}
use Rattle.std.proofs.lemmas.List.{length-map}
use Rattle.dbg_desk.specs.Crews.{WorkerState}
use Rattle.dbg_desk.proofs.Turns.{turn_more, fewer_orders}
use Rattle.dbg_desk.proofs.worker.Worker.work.Goals as goal

pub loop-turn-preserved : goal.loop-turn-preserved
loop-turn-preserved g c =
    let order = g.C.Command.order in
    let items = c.loop-turn.orders.items in
    let more = c.give_first.new.orders.items in
    let end = c.len-turn-end.ensures in
    let known = c.self.inside.orders.ok.0 in
    let size = length-map c.self.inside.orders.items order in
    let all = ap (λ (w : WorkerState). length w.orders) c.self.view_is in
    let within : c.loop-turn.turn < length c.args.self.now.orders =
    omega (arith, c.loop-turn-test.true, end, known, size, all) in (
      turn_more order c.args.self.now c.loop-turn.seat c.give_first.new.seat c.loop-turn.barred c.loop-turn.turn within items more
          c.loop-turn.invariant.0 c.give_first.ensures.gives c.give_first.ensures.left,
      fewer_orders g.C.Command.IsFresh items more c.give_first.ensures.fresh c.give_first.ensures.left c.loop-turn.invariant.1,
    )
