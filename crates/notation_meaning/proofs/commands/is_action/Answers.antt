use Rattle.notation_meaning.specs.ModelPrograms.{local, send, receive}
use Rattle.notation_meaning.proofs.Outcomes.{on_ok}
use Rattle.notation_meaning.proofs.commands.is_action.Goals as goal

pub returns-in-Local-Local : goal.returns-in-Local-Local
returns-in-Local-Local c = rw (c.in-Local-Local.is-0, c.in-Local-Local.is-1) local

pub returns-in_ok-names_process-in-Send-Send : goal.returns-in_ok-names_process-in-Send-Send
returns-in_ok-names_process-in-Send-Send c =
    on_ok c.means.result c.means.ensures
    (λ x h. rw (c.in-Send-Send.is-0, c.in-Send-Send.is-1) (send c.in_ok-names_process-in-Send-Send.ensures h))

pub returns-in_ok-names_process-in-Receive-Receive : goal.returns-in_ok-names_process-in-Receive-Receive
returns-in_ok-names_process-in-Receive-Receive c =
    on_ok c.names_variable.result c.names_variable.ensures
    (λ x h. rw (c.in-Receive-Receive.is-0, c.in-Receive-Receive.is-1) (receive c.in_ok-names_process-in-Receive-Receive.ensures h))
