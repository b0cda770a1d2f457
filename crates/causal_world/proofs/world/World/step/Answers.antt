use Rattle.std.proofs.Common.{List, length, arith, rules, ap, sym, subst}
use Rattle.dbg_base.specs.LocalStates.{LocalState}
use Rattle.dbg_base.specs.Configurations.{state_in}
use Rattle.proc_tree.specs.Programs.{program_of}
use Rattle.causal_world.specs.Worlds.{Makes}
use Rattle.causal_world.specs.Scenes.{scene}
use Rattle.causal_world.specs.Deciding.{CanCount}
use Rattle.causal_world.proofs.LastEventLemmas.{states_there, can_count}
use Rattle.causal_world.proofs.WorldCallLemmas.{stays}
use Rattle.causal_world.proofs.world.World.step.Goals as goal

pub try_choice-requires-clause-here : goal.try_choice-requires-clause-here
try_choice-requires-clause-here c =
    let size = states_there (program_of c.args.program.now) _ (rw (← c.self.view_is) at c.requires.of) in
    omega (arith, size, c.requires.process, ap (λ (l : List LocalState). length l) c.as_slice.ensures.value)

pub try_choice-requires-clause-few : goal.try_choice-requires-clause-few
try_choice-requires-clause-few c =
    let inside = c.self.inside in
    subst (λ (states : List LocalState). CanCount (state_in (record { states = states; channels = inside.grid.channels }) c.args.pid.0))
    (sym c.as_slice.ensures.value)
    (can_count (program_of c.args.program.now) (scene inside.lines inside.envs.items inside.grid.channels inside.past) c.args.pid.0
    (rw (← c.self.view_is) at c.requires.of) c.requires.process (rw c.place.ensures at c.if-place-ge-EVENTS.false))

pub returns-clause-of : goal.returns-clause-of
returns-clause-of c =
    let makes : Makes (program_of c.args.program.now) c.args.self.now c.args.pid.0 c.args.choice.0 c.in_ok-event.event = search rules in
    stays c.append.result (program_of c.args.program.now) c.args.self.now c.append.new.self c.args.pid.0 c.args.choice.0
    c.in_ok-event.event c.requires.of makes (search rules) c.append.ensures.made c.append.ensures.clocks c.append.ensures.kept
