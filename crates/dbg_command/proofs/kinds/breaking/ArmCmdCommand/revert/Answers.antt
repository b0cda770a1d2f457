use Rattle.dbg_command.proofs.kinds.breaking.ArmCmdCommand.revert.Goals as goal

pub returns-clause-of : goal.returns-clause-of
returns-clause-of c = λ P is may. c.disarm.ensures.of P is
