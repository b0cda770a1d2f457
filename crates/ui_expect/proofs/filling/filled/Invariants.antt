use Rattle.std.proofs.Common.{◌-◌}
use Rattle.dbg_base.specs.declared.limits.TheConstants.{INPUT_BYTES}
use Rattle.shell_serve.specs.Spans.{EndsWith}
use Rattle.ui_expect.proofs.filling.filled.Given as goal

abbrev pub invariant-loop-lines : goal.invariant-loop-lines
invariant-loop-lines g l = EndsWith l.lines.input.ended (g.R.Source.remaining l.reader)

-- the bytes that are not in a line yet
abbrev pub decreases-loop-lines : goal.decreases-loop-lines
decreases-loop-lines g l = INPUT_BYTES - l.lines.input.at
