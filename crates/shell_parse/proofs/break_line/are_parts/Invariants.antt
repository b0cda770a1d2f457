use Rattle.std.proofs.Common.{◌≡◌, is_some, length}
use Rattle.dbg_base.specs.CommandLines.{parts_in}
use Rattle.shell_parse.proofs.break_line.are_parts.Given as goal

abbrev pub invariant-loop-after : goal.invariant-loop-after
invariant-loop-after l = is_some (parts_in l.rest) ≡ is_some (parts_in l.fn.bytes)

abbrev pub decreases-loop-after : goal.decreases-loop-after
decreases-loop-after l = length l.rest
