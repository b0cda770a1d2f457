use Rattle.notation_meaning.specs.AgreementViews.{scope_of, places_of}
use Rattle.notation_meaning.proofs.AgreementFamilies.{ranges_step, ranges_done}
use Rattle.notation_meaning.proofs.families.places.Goals as goal

pub loop-binder-preserved : goal.loop-binder-preserved
loop-binder-preserved c =
    ranges_step _ _ (places_of (scope_of c.args.scope.now) c.loop-binder.found.items)
    (places_of (scope_of c.args.scope.now) c.in_ok-found.found.items) _ c.loop-binder.rest.now _ c.in-Some.binder.now
    c.loop-binder.invariant c.in-Some.ensures.cases.0 (rw c.as_slice.ensures.value at c.in_ok-found.ensures)

pub returns : goal.returns
returns c = ranges_done _ _ _ _ c.loop-binder.rest.now c.loop-binder.invariant c.in_default.ensures.cases
