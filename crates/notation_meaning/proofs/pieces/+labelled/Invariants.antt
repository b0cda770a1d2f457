use Rattle.notation_meaning.proofs.pieces.+labelled.Given as goal

abbrev pub decreases-labelled : goal.decreases-labelled
decreases-labelled l = l.depth
