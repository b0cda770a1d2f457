use Rattle.std.proofs.Common.{add-one}
use Rattle.notation_meaning.proofs.LineLemmas.{lines_step, lines_all}
use Rattle.notation_meaning.proofs.lines.are_lines.Goals as goal

pub loop-place-preserved : goal.loop-place-preserved
loop-place-preserved c =
    lines_step _ _ _ _ c.loop-place.rest.now _ c.in-Some.place.now _ _ _ _ _ c.loop-place.invariant c.in-Some.ensures.cases.0
    (rw c.as_slice.ensures.value at c.in_ok-is_line.ensures.1) c.in_ok-is_line.ensures.2 c.in-Some-line_at.ensures
    (add-one c.loop-place.number)

pub returns : goal.returns
returns c = lines_all _ _ _ _ c.loop-place.rest.now _ _ c.loop-place.invariant c.in_default.ensures.cases c.if-number-lines.false
