use Rattle.std.proofs.Common.{ℕ, List, length, ap, arith}
use Rattle.cut_core.specs.declared.kind.Kind.{Kind}
use Rattle.ui_timeline.proofs.UndoneOrderLemmas.{sizes}
use Rattle.ui_timeline.proofs.clock.clock_after.Goals as goal
use Rattle.ui_timeline.proofs.clock.clock_after.Goals.{then-pid-processes-via-then-pid-processes, then-pid-processes-via-else-pid-processes+then-n-place}

abbrev lines : List (List Kind) → ℕ
lines kinds = length kinds

pub returns-then-pid-processes-clause-clock : goal.returns-then-pid-processes-clause-clock
returns-then-pid-processes-clause-clock c here =
    let size = sizes c.args.world.now c.tally.ensures.world in
    elim c.then-pid-processes.branch [ then-pid-processes-via-then-pid-processes w ↦ absurd (omega (arith, here, size, c.processes.ensures, ap lines c.tally.ensures.kinds, w.if-pid-processes.true)) | then-pid-processes-via-else-pid-processes+then-n-place w ↦ omega (arith, w.place.ensures, w.if-n-place.true) ]

pub clock-requires-clause-process : goal.clock-requires-clause-process
clock-requires-clause-process c =
    let size = sizes c.args.world.now c.tally.ensures.world in
    omega (arith, size, c.processes.ensures, ap lines c.tally.ensures.kinds, c.if-pid-processes.false)
