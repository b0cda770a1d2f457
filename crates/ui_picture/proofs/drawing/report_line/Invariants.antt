use Rattle.std.proofs.Common.{◌-◌}
use Rattle.dbg_base.specs.declared.limits.TheConstants.{INPUT_BYTES}
use Rattle.shell_serve.specs.Spans.{EndsWith}
use Rattle.ui_picture.proofs.drawing.report_line.Given as goal

abbrev pub invariant-loop : goal.invariant-loop
invariant-loop g l = EndsWith l.played.lines.input.ended (g.R.Source.remaining l.reader)

-- the bytes that are not in a line yet
abbrev pub decreases-loop : goal.decreases-loop
decreases-loop g l = INPUT_BYTES - l.played.lines.input.at
