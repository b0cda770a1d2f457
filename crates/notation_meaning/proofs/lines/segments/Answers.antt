use Rattle.notation_meaning.specs.LineViews.{output_of}
use Rattle.notation_meaning.proofs.LineLemmas.{segments_step, segments_done}
use Rattle.notation_meaning.proofs.lines.segments.Goals as goal

pub loop-first-preserved : goal.loop-first-preserved
loop-first-preserved c =
    segments_step _ _ _ _ c.loop-first.rest.now _ c.in-Some.first.now _ (output_of c.loop-first.output) (output_of c.segment.new.output) _
    c.loop-first.invariant c.in-Some.ensures.cases.0 c.in_ok-segment.ensures.1 c.in_ok-segment.ensures.2

pub returns : goal.returns
returns c = segments_done _ _ _ _ c.loop-first.rest.now _ _ c.loop-first.invariant c.in_default.ensures.cases
