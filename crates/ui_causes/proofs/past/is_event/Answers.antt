use Rattle.std.proofs.Common.{◌≡◌, ℕ, List, length, ap, arith}
use Rattle.cut_core.specs.declared.kind.Kind.{Kind}
use Rattle.ui_causes.specs.CausalPasts.{IsEvent}
use Rattle.ui_causes.proofs.CausalPastLemmas.{sizes}
use Rattle.ui_causes.proofs.past.is_event.Goals as goal
use Rattle.ui_causes.proofs.past.is_event.Goals.{then-event-processes-via-then-event-processes, then-event-processes-via-else-event-processes+then-event-eq0}

abbrev lines : List (List Kind) → ℕ
lines kinds = length kinds

pub returns-then-event-processes : goal.returns-then-event-processes
returns-then-event-processes c =
    let size = sizes c.args.world.now c.tally.ensures.world in
    let none : IsEvent c.args.world.now c.args.event → ⊥ =
    λ is. elim c.then-event-processes.branch [ then-event-processes-via-then-event-processes w ↦ (let here = is.here in omega (arith, here, size, c.processes.ensures, ap lines c.tally.ensures.kinds, w.if-event-processes.true)) | then-event-processes-via-else-event-processes+then-event-eq0 w ↦ (let first = is.first in omega (arith, first, w.if-event-eq0.true)) ] in
    (λ t. absurd cc, λ is. absurd (none is))
