use Rattle.notation.proofs.line_expander.LineExpander.written.Goals as goal

pub returns-else-branch-clause-inside : goal.returns-else-branch-clause-inside
returns-else-branch-clause-inside c = c.disagreement.ensures _
