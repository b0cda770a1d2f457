use Rattle.notation.proofs.session.expand_program.Goals as goal

pub returns-in-Ok-clause-inside : goal.returns-in-Ok-clause-inside
returns-in-Ok-clause-inside c = c.disagreement.ensures _
