use Rattle.shell_print.proofs.notices.tell_fault.Goals as goal

pub returns-clause-written : goal.returns-clause-written
returns-clause-written g c = rw (← c.number.ensures) c.tell.ensures.written
