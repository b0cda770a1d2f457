use Rattle.shell_print.proofs.reply.print_said.Goals as goal

pub returns-in-None-Accepted : goal.returns-in-None-Accepted
returns-in-None-Accepted g c = λ call is. rw c.in-None-Accepted.is-1 (c.print_accepted.ensures call)
