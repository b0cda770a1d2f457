use Rattle.std.proofs.Common.{List, length, arith, rules, ap, sym, subst}
use Rattle.dbg_base.specs.LocalStates.{LocalState}
use Rattle.dbg_base.specs.Configurations.{state_in}
use Rattle.proc_tree.specs.Programs.{program_of}
use Rattle.causal_world.specs.Worlds.{Makes}
use Rattle.causal_world.specs.Scenes.{scene}
use Rattle.causal_world.specs.Deciding.{CanCount}
use Rattle.causal_world.proofs.LastEventLemmas.{states_there, can_count}
use Rattle.causal_world.proofs.WorldCallLemmas.{steps_to}
use Rattle.causal_world.proofs.world.World.next.Goals as goal

pub lowest-requires-clause-here : goal.lowest-requires-clause-here
lowest-requires-clause-here c =
    let size = states_there (program_of c.args.program.now) _ (rw (← c.self.view_is) at c.requires.of) in
    omega (arith, size, c.requires.process, ap (λ (l : List LocalState). length l) c.as_slice.ensures.value)

pub lowest-requires-clause-few : goal.lowest-requires-clause-few
lowest-requires-clause-few c =
    let inside = c.self.inside in
    subst (λ (states : List LocalState). CanCount (state_in (record { states = states; channels = inside.grid.channels }) c.args.pid.0))
    (sym c.as_slice.ensures.value)
    (can_count (program_of c.args.program.now) (scene inside.lines inside.envs.items inside.grid.channels inside.past) c.args.pid.0
    (rw (← c.self.view_is) at c.requires.of) c.requires.process (rw c.place.ensures at c.if-place-ge-EVENTS.false))

pub append-requires-clause-can : goal.append-requires-clause-can
append-requires-clause-can c =
    let makes : Makes (program_of c.args.program.now) c.args.self.now c.args.pid.0 c.in_ok-choice.choice.0 c.in_ok-choice.event =
    search rules in
    (program_of c.args.program.now, c.requires.of, makes)

pub returns-clause-of : goal.returns-clause-of
returns-clause-of c =
    let P = program_of c.args.program.now in
    let makes : Makes P c.args.self.now c.args.pid.0 c.in_ok-choice.choice.0 c.in_ok-choice.event = search rules in
    steps_to c.args.self.now c.append.new.self c.args.pid.0 c.in_ok-choice.choice.0 c.in_ok-choice.event c.in_ok-cutoff.ensures.clocks
    P c.requires.of makes (search rules) c.in_ok-cutoff.ensures.made
