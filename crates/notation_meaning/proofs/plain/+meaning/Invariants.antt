use Rattle.notation_meaning.proofs.plain.+meaning.Given as goal

abbrev pub decreases-means : goal.decreases-means
decreases-means l = l.depth

abbrev pub decreases-chain_means : goal.decreases-chain_means
decreases-chain_means l = l.depth

abbrev pub decreases-joined : goal.decreases-joined
decreases-joined l = l.depth

abbrev pub decreases-at_least : goal.decreases-at_least
decreases-at_least l = l.depth

abbrev pub decreases-form_means : goal.decreases-form_means
decreases-form_means l = l.depth

abbrev pub decreases-either : goal.decreases-either
decreases-either l = l.depth
