use Rattle.dbg_command.proofs.EqualBoxLemmas.{box_refused}
use Rattle.dbg_command.proofs.command.BoxDynCommandCommand.apply.Goals as goal

pub returns-clause-refused : goal.returns-clause-refused
returns-clause-refused g c =
    box_refused _ c.args.self.now c.as_mut.result.now c.apply.new.self c.apply.result c.as_mut.ensures.value.1 c.apply.ensures.1.1.1.1.1
