use Rattle.std.proofs.Common.{length}
use Rattle.notation_meaning.specs.AgreementViews.{scope_of, played_of}
use Rattle.notation_meaning.specs.LineViews.{output_of}
use Rattle.notation_meaning.proofs.LineLemmas.{CopiesGo}
use Rattle.notation_meaning.proofs.lines.copies.Given as goal

-- the places that are left belong after those so far
abbrev pub invariant-loop-place : goal.invariant-loop-place
invariant-loop-place l =
    CopiesGo (played_of l.played) l.line l.segment (scope_of l.scope) l.places (output_of l.initial.output) l.joint (output_of l.output) l.rest

abbrev pub decreases-loop-place : goal.decreases-loop-place
decreases-loop-place l = length l.rest
