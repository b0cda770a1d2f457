use Rattle.std.proofs.Common.{rules, arith, ◌≡◌, ℕ, length, sym}
use Rattle.dbg_base.specs.Trees.{process_of}
use Rattle.dbg_base.specs.LocalStates.{no_state}
use Rattle.proc_tree.specs.Programs.{program_of}
use Rattle.causal_world.proofs.LastEventLemmas.{states_there}
use Rattle.ui_view.proofs.FiringLemmas.{there, missing}
use Rattle.ui_view.proofs.finding.find_hindrance.Goals.{in_default-via-in-Some+in_default, in_default-via-in_default}
use Rattle.ui_view.proofs.finding.find_hindrance.Goals as goal

pub returns-in_default-clause-verdict : goal.returns-in_default-clause-verdict
returns-in_default-clause-verdict c = λ of here. elim c.in_default.branch [
  | in_default-via-in-Some+in_default w ↦ absurd (missing c.args.world.now.standing.states c.args.pid.0
      (omega (arith, here, states_there (program_of c.args.program.now) c.args.world.now of)) (search rules))
  | in_default-via-in_default w ↦ absurd (missing (process_of (program_of c.args.program.now) c.args.pid.0).commands c.args.choice.0
      (omega (arith, c.if-choice-commands.false, c.commands.ensures.value)) (search rules))
]

pub in_state-requires : goal.in_state-requires
in_state-requires c = there c.args.world.now.standing.states c.args.pid.0 no_state c.in-Some-Some.env.now (search rules)
