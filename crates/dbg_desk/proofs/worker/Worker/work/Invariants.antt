use Rattle.std.proofs.Common.{map}
use Rattle.dbg_desk.specs.Crews.{AreOrders}
use Rattle.dbg_desk.proofs.Turns.{HasGiven}
use Rattle.dbg_desk.proofs.worker.Worker.work.Given as goal

abbrev pub invariant-loop-turn : goal.invariant-loop-turn
invariant-loop-turn g l =
    HasGiven l.fn.self l.seat (map g.C.Command.order l.orders.items) l.barred l.turn × AreOrders g.C.Command.IsFresh l.orders.items
