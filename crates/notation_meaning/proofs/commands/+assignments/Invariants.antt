use Rattle.notation_meaning.proofs.commands.+assignments.Given as goal

abbrev pub decreases-assignments : goal.decreases-assignments
decreases-assignments l = l.depth
