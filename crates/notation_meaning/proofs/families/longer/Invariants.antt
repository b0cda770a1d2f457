use Rattle.std.proofs.Common.{length}
use Rattle.notation_meaning.specs.AgreementViews.{context_of, scope_of}
use Rattle.notation_meaning.proofs.AgreementFamilies.{PlacesGo}
use Rattle.notation_meaning.proofs.families.longer.Given as goal

-- the places that are left belong after those found so far
abbrev pub invariant-loop-place : goal.invariant-loop-place
invariant-loop-place l = PlacesGo (context_of l.known) l.binder (scope_of l.scope) l.places l.found.items l.rest

abbrev pub decreases-loop-place : goal.decreases-loop-place
decreases-loop-place l = length l.rest
