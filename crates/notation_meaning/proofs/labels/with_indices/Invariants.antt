use Rattle.std.proofs.Common.{◌≡◌, length}
use Rattle.notation_meaning.specs.ModelPrograms.{with_brackets}
use Rattle.notation_meaning.proofs.labels.with_indices.Given as goal

-- the indices that are left belong after the name so far
abbrev pub invariant-loop-first : goal.invariant-loop-first
invariant-loop-first l = with_brackets l.fn.name l.indices ≡ with_brackets l.whole.items l.rest

abbrev pub decreases-loop-first : goal.decreases-loop-first
decreases-loop-first l = length l.rest
