use Rattle.dbg_command.proofs.EqualBoxLemmas.{box_same}
use Rattle.dbg_command.proofs.command.BoxDynCommandCommand.revert.Goals as goal

pub returns-clause-unchanged : goal.returns-clause-unchanged
returns-clause-unchanged g c =
    box_same c.args.self.now c.as_mut.result.now c.revert.new.self c.revert.result c.as_mut.ensures.value.1 c.revert.ensures.1.1.1.1.1
