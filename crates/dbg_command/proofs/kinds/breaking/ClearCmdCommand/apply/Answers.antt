use Rattle.dbg_command.proofs.CommandUndoLemmas.{accepted_in}
use Rattle.dbg_command.proofs.kinds.breaking.ClearCmdCommand.apply.Goals as goal

pub returns-clause-of : goal.returns-clause-of
returns-clause-of c = c.clear.ensures.of _ c.requires.of

pub returns-clause-leads : goal.returns-clause-leads
returns-clause-leads c = accepted_in c.clear.result _ _ _ c.clear.ensures.leads c.requires.of
