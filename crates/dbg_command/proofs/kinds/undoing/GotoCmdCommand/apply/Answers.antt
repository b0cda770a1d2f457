use Rattle.dbg_command.proofs.CommandUndoLemmas.{accepted_in}
use Rattle.dbg_command.proofs.kinds.undoing.GotoCmdCommand.apply.Goals as goal

pub returns-clause-of : goal.returns-clause-of
returns-clause-of c = c.go_to.ensures.of _ c.requires.of

pub returns-clause-leads : goal.returns-clause-leads
returns-clause-leads c = accepted_in c.go_to.result _ _ _ c.go_to.ensures.leads c.requires.of
