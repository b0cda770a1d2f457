use Rattle.std.proofs.Common.{◌≡◌, ◌<◌, ◌≤◌, ℕ, List, length, map, get_or, ap, sym, ◌∙◌, subst, ◌+◌, arith}
use Rattle.std.proofs.lemmas.List.{length-map, get_or-map}
use Rattle.cut_core.specs.declared.kind.Kind.{Kind}
use Rattle.dbg_base.specs.declared.ids.Pid.{Pid}
use Rattle.causal_world.specs.Scenes.{Scene}
use Rattle.causal_world.specs.Worlds.{IsSomeWorld}
use Rattle.ui_timeline.specs.declared.timed.TimedEvent.{TimedEvent}
use Rattle.ui_timeline.proofs.UndoneOrderLemmas.{sizes}
use Rattle.ui_timeline.proofs.EventClockLemmas.{AreOrdered, AreTimed, IsNext, timed_none, timed_more, timed_all, next_event, has_clock}
use Rattle.ui_timeline.proofs.timed.timed_events.Goals as goal
use Rattle.ui_timeline.proofs.timed.timed_events.Goals.{in-Some+in_ok-push, in_default}

-- the numbers of processes
abbrev numbers : List Pid → List ℕ
numbers pids = map (λ (pid : Pid). pid.0) pids

abbrev lines : List (List Kind) → ℕ
lines kinds = length kinds

abbrev pid_at : List Pid → ℕ → Pid
pid_at pids n = get_or pids n (record { 0 = 0 })

number_at : (pids : List Pid) (n : ℕ) → n < length pids → get_or (numbers pids) n 0 ≡ (pid_at pids n).0
number_at pids n within = get_or-map (λ (pid : Pid). pid.0) pids n (record { 0 = 0 }) 0 within

below : (pids : List Pid) (n : ℕ) → n < length pids → n < length (numbers pids)
below pids n within = simp length-map within

-- the next event is one of the process at this position
next : (w : Scene) (pids order : List Pid) (counts : List ℕ) (n : ℕ) (events : List TimedEvent) → IsSomeWorld w
    → AreOrdered w (numbers order) → pids ≡ order → AreTimed w (numbers pids) counts n events → n < length pids
    → IsNext w counts (pid_at pids n).0
next w pids order counts n events some ordered same timed within =
    subst (IsNext w counts) (number_at pids n within)
    (next_event w (numbers pids) counts n events some (subst (λ l. AreOrdered w (numbers l)) (sym same) ordered) timed (below pids n within))

pub loop-pid-init : goal.loop-pid-init
loop-pid-init c =
    let size = sizes c.args.world.now c.tally.ensures.world in
    timed_none c.args.world.now (numbers c.items-pid-items.result.now) _ c.processes.result _
    (omega (arith, c.processes.ensures, ap lines c.tally.ensures.kinds, size)) c.in_ok-reported.ensures c.new-events.ensures.items

pub overflow_add-number : goal.overflow_add-number
overflow_add-number c =
    let is = next _ _ _ _ _ _ c.tally.ensures.world c.in_ok-order.ensures.order c.items-pid-items.ensures c.loop-pid.invariant c.loop-pid-test.true in
    omega (arith, c.count-number.ensures, is.left, is.few)

pub set-requires : goal.set-requires
set-requires c =
    let is = next _ _ _ _ _ _ c.tally.ensures.world c.in_ok-order.ensures.order c.items-pid-items.ensures c.loop-pid.invariant c.loop-pid-test.true in
    omega (arith, is.here, c.loop-pid.invariant.size)

pub loop-pid-preserved : goal.loop-pid-preserved
loop-pid-preserved c =
    let w = c.args.world.now in
    let pids = c.items-pid-items.result.now in
    let n = c.loop-pid.pid-index in
    let number = c.count-number.result + 1 in
    let is = next _ _ _ _ _ _ c.tally.ensures.world c.in_ok-order.ensures.order c.items-pid-items.ensures c.loop-pid.invariant c.loop-pid-test.true in
    let counted = ap (λ (m : ℕ). m + 1) c.count-number.ensures in
    elim c.match-branch-4.branch [ in-Some+in_ok-push b ↦ timed_more w (numbers pids) c.loop-pid.reported n c.loop-pid.events.items (record { pid = pid_at pids n; number = number; clock = b.in-Some.clock }) c.in_ok-clock.field-0 _ _ c.loop-pid.invariant (below pids n c.loop-pid-test.true) (number_at pids n c.loop-pid-test.true) counted is c.in_ok-clock.ensures.clock b.in-Some.is c.set.ensures (ap (λ v. v.items) b.events-is ∙ b.in_ok-push.ensures.items) | in_default b ↦ absurd (has_clock w c.loop-pid.reported (pid_at pids n).0 number c.in_ok-clock.field-0 is counted c.in_ok-clock.ensures.clock b.in_default.is) ]

pub returns-clause-events : goal.returns-clause-events
returns-clause-events c =
    let pids = c.items-pid-items.result.now in
    let end : length (numbers pids) ≤ c.loop-pid.pid-index = simp length-map c.loop-pid-test.false in
    timed_all c.args.world.now (numbers pids) c.loop-pid.reported c.loop-pid.pid-index c.loop-pid.events.items _ c.loop-pid.invariant end
    (subst (λ l. AreOrdered c.args.world.now (numbers l)) (sym c.items-pid-items.ensures) c.in_ok-order.ensures.order) c.new.ensures
