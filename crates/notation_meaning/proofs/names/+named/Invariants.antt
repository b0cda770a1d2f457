use Rattle.notation_meaning.proofs.names.+named.Given as goal

abbrev pub decreases-named : goal.decreases-named
decreases-named l = l.depth
