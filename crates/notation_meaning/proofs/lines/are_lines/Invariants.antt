use Rattle.std.proofs.Common.{length}
use Rattle.notation_meaning.specs.AgreementViews.{played_of}
use Rattle.notation_meaning.specs.LineViews.{lines_of}
use Rattle.notation_meaning.proofs.LineLemmas.{LinesGo}
use Rattle.notation_meaning.proofs.lines.are_lines.Given as goal

-- the places that are left belong after the lines so far
abbrev pub invariant-loop-place : goal.invariant-loop-place
invariant-loop-place l = LinesGo (played_of l.played) l.line l.wanted l.places (lines_of l.lines) l.number l.rest

abbrev pub decreases-loop-place : goal.decreases-loop-place
decreases-loop-place l = length l.rest
