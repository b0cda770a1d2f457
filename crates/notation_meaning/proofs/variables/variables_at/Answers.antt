use Rattle.notation_meaning.proofs.AgreementParts.{variables_step, variables_done}
use Rattle.notation_meaning.proofs.variables.variables_at.Goals as goal

pub loop-place-preserved : goal.loop-place-preserved
loop-place-preserved c =
    let h = rw c.as_slice.ensures.value at c.in_ok-is_variable.ensures in
    variables_step _ _ _ _ _ c.loop-place.rest.now _ c.in-Some.place.now _ c.loop-place.index _ h.0 h.1 c.loop-place.invariant
    c.in-Some.ensures.cases.0 h.2 h.3 h.4 c.in_ok-index.ensures

pub returns : goal.returns
returns c = variables_done _ _ _ _ _ c.loop-place.rest.now _ _ c.loop-place.invariant c.in_default.ensures.cases
