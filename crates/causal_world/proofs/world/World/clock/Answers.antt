use Rattle.std.proofs.Common.{◌≡◌, sym, ap, ◌∙◌, subst}
use Rattle.dbg_base.specs.SystemStates.{history_of}
use Rattle.dbg_base.specs.Clocks.{IsClock}
use Rattle.causal_world.specs.Scenes.{Scene}
use Rattle.causal_world.specs.Pasts.{row_at}
use Rattle.causal_world.proofs.WorldCallLemmas.{is_kept, has_event, row_is_clock}
use Rattle.causal_world.proofs.world.World.clock.Goals as goal

pub clock-requires-clause-here : goal.clock-requires-clause-here
clock-requires-clause-here c = is_kept _ c.args.pid.0 c.self.invariant (rw (← c.self.view_is) at c.requires.process)

pub clock-requires-clause-event : goal.clock-requires-clause-event
clock-requires-clause-event c = has_event _ c.args.pid.0 c.args.n c.self.invariant (rw (← c.self.view_is) at c.requires.event)

pub returns-clause-clock : goal.returns-clause-clock
returns-clause-clock c = λ P of.
    let p = c.args.pid.0 in
    let row : c.new.result ≡ row_at c.args.self.now.clocks p c.args.n =
    c.new.ensures ∙ c.in_ok-from_slice.ensures.items ∙ c.clock.ensures.row
    ∙ ap (λ (w : Scene). row_at w.clocks p c.args.n) c.self.view_is in
    subst (IsClock P (history_of c.args.self.now.state) p c.args.n) (sym row)
    (row_is_clock P c.args.self.now p c.args.n of c.requires.process c.requires.event)
