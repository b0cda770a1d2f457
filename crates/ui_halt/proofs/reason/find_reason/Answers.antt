use Rattle.std.proofs.Common.{ℕ, ◌≤◌, List, length, refl, ap, arith}
use Rattle.cut_core.specs.declared.kind.Kind.{Kind}
use Rattle.ui_causes.specs.declared.past.EventPlace.{EventPlace}
use Rattle.ui_causes.proofs.CausalPastLemmas.{sizes}
use Rattle.ui_halt.proofs.ReasonLemmas.{is_reason, no_reason, no_event}
use Rattle.ui_halt.proofs.reason.find_reason.Goals as goal

abbrev lines : List (List Kind) → ℕ
lines kinds = length kinds

pub returns-then-not-is_event : goal.returns-then-not-is_event
returns-then-not-is_event c =
    no_event c.args.world.now c.args.cut.now c.args.earlier (λ is. (let t = c.if-not-is_event.ensures.1 is in cc))

pub returns-then-needs : goal.returns-then-needs
returns-then-needs c =
    let last : EventPlace = record { pid = record { 0 = c.loop-q.q }; number = c.count-number.result } in
    let reason : EventPlace = record { pid = record { 0 = c.loop-q.q }; number = c.first_after-number.result } in
    is_reason c.args.world.now c.args.cut.now c.args.earlier last reason c.tally.ensures.world (c.if-not-is_event.ensures.0 refl)
    (λ P E are. (c.if-needs.ensures P E are).0 refl) c.count-number.ensures refl c.first_after-number.ensures.one
    c.first_after-number.ensures.after

pub returns : goal.returns
returns c =
    let size = sizes c.args.world.now c.tally.ensures.world in
    let enough : length c.args.world.now.state.places ≤ c.loop-q.q =
    omega (arith, size, c.processes-q-end.ensures, ap lines c.tally.ensures.kinds, c.loop-q-test.false) in
    no_reason c.args.world.now c.args.cut.now c.args.earlier c.loop-q.q enough c.loop-q.invariant
