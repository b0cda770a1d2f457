use Rattle.std.proofs.Common.{◌≡◌, length, Some}
use Rattle.notation_meaning.specs.CommandLines.{chosen, reading_or}
use Rattle.notation_meaning.proofs.predicates.chosen.Given as goal

abbrev pub invariant-loop-reading : goal.invariant-loop-reading
invariant-loop-reading l =
    chosen l.declaration l.readings ≡ reading_or (Some l.first.expression) l.declaration l.rest

abbrev pub decreases-loop-reading : goal.decreases-loop-reading
decreases-loop-reading l = length l.rest
