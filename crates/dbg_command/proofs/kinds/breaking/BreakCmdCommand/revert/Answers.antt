use Rattle.dbg_command.proofs.kinds.breaking.BreakCmdCommand.revert.Goals as goal

pub returns-clause-of : goal.returns-clause-of
returns-clause-of c = λ P is may. c.unset_break.ensures.of P is
