use Rattle.std.proofs.Common.{refl}
use Rattle.notation_meaning.specs.LineViews.{output_of}
use Rattle.notation_meaning.proofs.LineLemmas.{copies_step, copies_done}
use Rattle.notation_meaning.proofs.lines.copies.Goals as goal

pub loop-place-preserved : goal.loop-place-preserved
loop-place-preserved c =
    copies_step _ _ _ _ _ c.loop-place.rest.now _ c.in-Some.place.now c.loop-place.joint.now _ _ (output_of c.loop-place.output)
    (output_of c.once.new.output) _ c.loop-place.invariant c.in-Some.ensures.cases.0
    (rw c.as_slice.ensures.value at c.in_ok-once.ensures.1) c.in_ok-once.ensures.2 refl

pub returns : goal.returns
returns c = copies_done _ _ _ _ _ c.loop-place.rest.now _ _ _ c.loop-place.invariant c.in_default.ensures.cases
