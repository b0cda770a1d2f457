use Rattle.dbg_command.proofs.kinds.breaking.ArmCmdCommand.apply.Goals as goal

pub returns-in_err-reply-clause-of : goal.returns-in_err-reply-clause-of
returns-in_err-reply-clause-of c = c.arm.ensures.of _ c.requires.of

pub returns-clause-of : goal.returns-clause-of
returns-clause-of c = c.arm.ensures.of _ c.requires.of
