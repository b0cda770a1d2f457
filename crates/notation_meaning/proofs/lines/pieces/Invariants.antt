use Rattle.std.proofs.Common.{length}
use Rattle.notation_meaning.specs.AgreementViews.{scope_of, played_of}
use Rattle.notation_meaning.specs.LineViews.{output_of}
use Rattle.notation_meaning.proofs.LineLemmas.{PiecesGo}
use Rattle.notation_meaning.proofs.lines.pieces.Given as goal

-- the pieces that are left belong after those so far
abbrev pub invariant-loop-first : goal.invariant-loop-first
invariant-loop-first l =
    PiecesGo (played_of l.played) l.line (scope_of l.scope) l.wanted (output_of l.initial.output) (output_of l.output) l.rest

abbrev pub decreases-loop-first : goal.decreases-loop-first
decreases-loop-first l = length l.rest
