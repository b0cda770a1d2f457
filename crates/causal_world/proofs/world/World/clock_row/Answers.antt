use Rattle.std.proofs.Common.{ap, length, ◌∙◌}
use Rattle.causal_world.specs.Scenes.{Scene}
use Rattle.causal_world.proofs.WorldCallLemmas.{is_kept, has_event, kinds_placed}
use Rattle.causal_world.proofs.world.World.clock_row.Goals as goal

pub clock-requires-clause-here : goal.clock-requires-clause-here
clock-requires-clause-here c = is_kept _ c.args.pid.0 c.self.invariant (rw (← c.self.view_is) at c.requires.process)

pub clock-requires-clause-event : goal.clock-requires-clause-event
clock-requires-clause-event c = has_event _ c.args.pid.0 c.args.n c.self.invariant (rw (← c.self.view_is) at c.requires.event)

pub returns-clause-len : goal.returns-clause-len
returns-clause-len c =
    c.clock.ensures.len ∙ kinds_placed _ c.self.invariant ∙ ap (λ (w : Scene). length w.state.places) c.self.view_is
