use Rattle.notation_meaning.proofs.AgreementFamilies.{places_step, places_done}
use Rattle.notation_meaning.proofs.families.longer.Goals as goal

pub loop-place-preserved : goal.loop-place-preserved
loop-place-preserved c =
    places_step _ _ _ _ c.loop-place.found.items c.put_places.new.found.items c.loop-place.rest.now _ c.in-Some.place.now
    c.in_ok-values.values.items c.loop-place.invariant c.in-Some.ensures.cases.0
    (rw c.as_slice.ensures.value at c.in_ok-values.ensures)
    (rw (c.as_slice-in-Some.ensures.value, c.as_slice-in-Some-2.ensures.value) at c.in_ok-put_places.ensures)

pub returns : goal.returns
returns c = places_done _ _ _ _ _ c.loop-place.rest.now c.loop-place.invariant c.in_default.ensures.cases
