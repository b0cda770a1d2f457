use Rattle.std.proofs.Common.{arith}
use Rattle.dbg_base.specs.Configurations.{Configuration}
use Rattle.proc_tree.specs.Programs.{program_of}
use Rattle.causal_world.specs.Scenes.{with_done}
use Rattle.causal_world.proofs.CommandEventLemmas.{first_is, passes_next}
use Rattle.causal_world.proofs.deciding.lowest.Goals as goal

pub returns-in-Ok : goal.returns-in-Ok
returns-in-Ok c =
    let P = program_of c.args.program.now in
    let here : Configuration = record { states = c.args.envs.now; channels = c.args.grid.now.channels } in
    let decided = rw c.in-Ok.is at c.in_ok-event.ensures in (
      first_is P here (with_done here c.args.pid.0 c.in-Ok.event) c.args.pid.0 c.loop-k.k (omega arith) c.loop-k.invariant decided.1,
      omega arith,
      decided.0,
      decided.1,
    )

pub loop-k-preserved : goal.loop-k-preserved
loop-k-preserved c =
    let P = program_of c.args.program.now in
    let here : Configuration = record { states = c.args.envs.now; channels = c.args.grid.now.channels } in
    let decided = rw c.in-Err.is at c.in_ok-event.ensures in
    passes_next P here c.args.pid.0 c.loop-k.k c.in-Err._refusal (omega arith) c.loop-k.invariant decided
