use Rattle.std.proofs.Common.{◌+◌, ◌*◌}
use Rattle.notation_programs.proofs.writing.Writer.+writing.Given as goal

abbrev pub decreases-expression : goal.decreases-expression
decreases-expression l = l.depth * 8

abbrev pub decreases-unary : goal.decreases-unary
decreases-unary l = l.depth * 8 + 1

abbrev pub decreases-chain : goal.decreases-chain
decreases-chain l = l.depth * 8 + 1

abbrev pub decreases-at_member : goal.decreases-at_member
decreases-at_member l = l.depth * 8 + 1

abbrev pub decreases-joined : goal.decreases-joined
decreases-joined l = l.depth * 8 + 2

abbrev pub decreases-at_least : goal.decreases-at_least
decreases-at_least l = l.depth * 8 + 3

abbrev pub decreases-each : goal.decreases-each
decreases-each l = l.depth * 8 + 4
