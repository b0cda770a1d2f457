use Rattle.std.proofs.Common.{◌≡◌, suc, ◌+◌, ◌<◌, List, [], ◌∷◌, ◌++◌, length, rules, sym, ap, ◌∙◌, arith}
use Rattle.std.proofs.lemmas.List.{length-map}
use Rattle.dbg_desk.specs.Desks.{SeatState, new_seats}
use Rattle.dbg_desk.specs.Crews.{WorkerState}
use Rattle.dbg_shell.specs.Crewing.{new_workers}
use Rattle.dbg_shell.proofs.CrewLemmas.{rounds_short, worker_is}
use Rattle.dbg_shell.proofs.SeatLemmas.{next_seat, seats_go_on, last_seat}
use Rattle.dbg_shell.proofs.orders.workers.Goals as goal

pub new-requires-clause-few : goal.new-requires-clause-few
new-requires-clause-few g c =
    let short = rounds_short c.loop-seat.number c.args.processes c.args.turns in
    let size = sym (length-map c.in_ok-orders.orders.items g.C.Command.order) ∙ ap length c.in_ok-orders.ensures.orders in
    let few = c.requires.few in
    omega (arith, short, size, few)

pub overflow_add-number : goal.overflow_add-number
overflow_add-number g c =
    let on : c.loop-seat.seat-iterator.rest.items ≡ c.in-Some.seat ∷ c.next.new.self.rest.items = search rules in
    let next = next_seat g.L.Run.seats c.loop-seat.number c.in-Some.seat c.next.new.self.rest.items
    (ap (λ (xs : List SeatState). new_seats c.loop-seat.number ++ xs) (sym on) ∙ c.loop-seat.invariant.left) in
    let lt : c.loop-seat.number < g.L.Run.seats = next.0 in
    let all = c.requires.all in
    omega (arith, lt, all)

pub loop-seat-preserved : goal.loop-seat-preserved
loop-seat-preserved g c =
    let on : c.loop-seat.seat-iterator.rest.items ≡ c.in-Some.seat ∷ c.next.new.self.rest.items = search rules in
    let left = ap (λ (xs : List SeatState). new_seats c.loop-seat.number ++ xs) (sym on) ∙ c.loop-seat.invariant.left in
    let next = next_seat g.L.Run.seats c.loop-seat.number c.in-Some.seat c.next.new.self.rest.items left in
    let longer : c.push.new.self.items ≡ c.loop-seat.workers.items ++ c.new.result ∷ [] = search rules in
    let worker = worker_is c.args.processes c.args.turns c.loop-seat.number c.new.result (c.new.ensures.seat ∙ next.1)
    (c.new.ensures.orders ∙ c.in_ok-orders.ensures.orders) c.new.ensures.begun in
    let number : suc c.loop-seat.number ≡ c.loop-seat.number + 1 = omega arith in
    record {
      next = tt;
      finite = tt;
      left = seats_go_on g.L.Run.seats c.loop-seat.number c.in-Some.seat c.next.new.self.rest.items left;
      workers = longer ∙ ap (λ (xs : List WorkerState). xs ++ c.new.result ∷ []) c.loop-seat.invariant.workers
          ∙ ap (λ (w : WorkerState). new_workers c.args.processes c.args.turns c.loop-seat.number ++ w ∷ []) worker
          ∙ ap (new_workers c.args.processes c.args.turns) number;
    }

pub returns-clause-workers : goal.returns-clause-workers
returns-clause-workers g c =
    let none : length c.loop-seat.seat-iterator.rest.items ≡ 0 = search rules in
    c.loop-seat.invariant.workers ∙ ap (new_workers c.args.processes c.args.turns)
    (last_seat g.L.Run.seats c.loop-seat.number c.loop-seat.seat-iterator.rest.items none c.loop-seat.invariant.left)
