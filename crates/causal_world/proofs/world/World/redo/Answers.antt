use Rattle.std.proofs.Common.{List, length, arith, rules, ap, sym, subst, ◌≡◌, Some}
use Rattle.std.specs.Prelude.{slice_get}
use Rattle.dbg_base.specs.SystemStates.{line_of, place_at}
use Rattle.dbg_base.specs.LocalStates.{LocalState}
use Rattle.dbg_base.specs.Configurations.{state_in}
use Rattle.proc_tree.specs.Programs.{program_of}
use Rattle.causal_world.specs.Worlds.{Makes}
use Rattle.causal_world.specs.Scenes.{scene}
use Rattle.causal_world.specs.Deciding.{CanCount}
use Rattle.causal_world.proofs.LastEventLemmas.{states_there, can_count}
use Rattle.causal_world.proofs.WorldCallLemmas.{next_few, repeats_to}
use Rattle.causal_world.proofs.world.World.redo.Goals as goal

pub try_choice-requires-clause-here : goal.try_choice-requires-clause-here
try_choice-requires-clause-here c =
    let size = states_there (program_of c.args.program.now) _ (rw (← c.self.view_is) at c.requires.of) in
    omega (arith, size, c.requires.process, ap (λ (l : List LocalState). length l) c.as_slice.ensures.value)

pub try_choice-requires-clause-few : goal.try_choice-requires-clause-few
try_choice-requires-clause-few c =
    let inside = c.self.inside in
    let p = c.args.pid.0 in
    let of = rw (← c.self.view_is) at c.requires.of in
    let next : slice_get (line_of inside.lines p) (place_at inside.lines p) ≡ Some c.in_ok-ok_or.field-0 = search rules in
    subst (λ (states : List LocalState). CanCount (state_in (record { states = states; channels = inside.grid.channels }) p))
    (sym c.as_slice.ensures.value)
    (can_count (program_of c.args.program.now) (scene inside.lines inside.envs.items inside.grid.channels inside.past) p of
    c.requires.process (next_few (program_of c.args.program.now) _ p c.in_ok-ok_or.field-0 of next))

pub returns-clause-of : goal.returns-clause-of
returns-clause-of c =
    let P = program_of c.args.program.now in
    let makes : Makes P c.args.self.now c.args.pid.0 c.in_ok-ok_or.field-0 c.in_ok-event.event = search rules in
    repeats_to c.args.self.now c.repeat.new.self c.args.pid.0 c.in_ok-ok_or.field-0 c.in_ok-event.event c.in_ok-repeat.ensures.clocks
    P c.requires.of makes (search rules) c.in_ok-repeat.ensures.made
