use Rattle.dbg_command.proofs.table.Table.give_one.Goals as goal

pub returns-in-Goto-clause-of : goal.returns-in-Goto-clause-of
returns-in-Goto-clause-of c = c.go_to.ensures.of _ c.requires.of

pub returns-in-Clear-clause-of : goal.returns-in-Clear-clause-of
returns-in-Clear-clause-of c = c.clear.ensures.of _ c.requires.of

pub returns-in-Arm-clause-of : goal.returns-in-Arm-clause-of
returns-in-Arm-clause-of c = c.arm.ensures.of _ c.requires.of

pub returns-in-Pass-clause-of : goal.returns-in-Pass-clause-of
returns-in-Pass-clause-of c = c.pass.ensures.of _ c.requires.of
