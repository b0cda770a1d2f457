use Rattle.std.proofs.Common.{[], ◌∷◌, length}
use Rattle.notation_meaning.specs.ModelFamilies.{place_in}
use Rattle.notation_meaning.specs.AgreementViews.{context_of, scope_of, places_of}
use Rattle.notation_meaning.proofs.AgreementFamilies.{RangesGo}
use Rattle.notation_meaning.proofs.families.places.Given as goal

-- the ranges that are left belong after the places so far
abbrev pub invariant-loop-binder : goal.invariant-loop-binder
invariant-loop-binder l =
    RangesGo (context_of l.known) (place_in (scope_of l.scope) ∷ []) l.ranges (places_of (scope_of l.scope) l.found.items) l.rest

abbrev pub decreases-loop-binder : goal.decreases-loop-binder
decreases-loop-binder l = length l.rest
