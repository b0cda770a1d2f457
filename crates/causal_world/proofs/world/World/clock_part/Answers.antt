use Rattle.std.proofs.Common.{◌≡◌, ℕ, List, ap, ◌∙◌}
use Rattle.std.specs.Prelude.{slice_index}
use Rattle.dbg_base.specs.SystemStates.{history_of}
use Rattle.causal_world.specs.Scenes.{Scene}
use Rattle.causal_world.specs.Pasts.{row_at}
use Rattle.causal_world.proofs.WorldCallLemmas.{is_kept, has_event, row_is_clock, same_part}
use Rattle.causal_world.proofs.world.World.clock_part.Goals as goal

pub clock-requires-clause-here : goal.clock-requires-clause-here
clock-requires-clause-here c = is_kept _ c.args.pid.0 c.self.invariant (rw (← c.self.view_is) at c.requires.process)

pub clock-requires-clause-event : goal.clock-requires-clause-event
clock-requires-clause-event c = has_event _ c.args.pid.0 c.args.n c.self.invariant (rw (← c.self.view_is) at c.requires.event)

row : (c : goal.After-count_of) → c.count_of.result ≡ slice_index (row_at c.args.self.now.clocks c.args.pid.0 c.args.n) c.args.of.0
row c =
    c.count_of.ensures ∙ ap (λ (row : List ℕ). slice_index row c.args.of.0) (c.clock.ensures.row
    ∙ ap (λ (w : Scene). row_at w.clocks c.args.pid.0 c.args.n) c.self.view_is)

pub returns-clause-row : goal.returns-clause-row
returns-clause-row c = row c

pub returns-clause-part : goal.returns-clause-part
returns-clause-part c = λ P cut of clock.
    let p = c.args.pid.0 in
    row c
    ∙ same_part P (history_of c.args.self.now.state) p c.args.n c.args.of.0 (row_at c.args.self.now.clocks p c.args.n) cut
    (row_is_clock P c.args.self.now p c.args.n of c.requires.process c.requires.event) clock
