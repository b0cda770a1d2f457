use Rattle.std.proofs.Common.{◌≡◌, get_or, subst, sym}
use Rattle.std.proofs.lemmas.List.{get_or_read}
use Rattle.proc_tree.specs.ProcessTrees.{command_tree}
use Rattle.dbg_base.specs.LocalStates.{no_state}
use Rattle.dbg_base.specs.Configurations.{Configuration}
use Rattle.causal_world.specs.Deciding.{CanCount}
use Rattle.causal_world.proofs.CommandEventLemmas.{decides}
use Rattle.causal_world.proofs.deciding.proceed.Goals as goal

pub event-requires : goal.event-requires
event-requires c =
    let state : c.index-envs-pid.result ≡ get_or c.args.envs.now c.args.pid.0 no_state =
    get_or_read c.args.envs.now c.args.pid.0 c.index-envs-pid.result c.requires.here c.index-envs-pid.is no_state in
    subst CanCount (sym state) c.requires.few

pub returns : goal.returns
returns c =
    let here : Configuration = record { states = c.args.envs.now; channels = c.args.grid.now.channels } in
    let state : c.index-envs-pid.result ≡ get_or c.args.envs.now c.args.pid.0 no_state =
    get_or_read c.args.envs.now c.args.pid.0 c.index-envs-pid.result c.requires.here c.index-envs-pid.is no_state in
    decides c.event.result (command_tree c.args.command.now) here c.args.pid.0 c.args.choice.0 c.in-Ok.taken c.index-envs-pid.result
    state c.in-Ok.ensures c.event.ensures
