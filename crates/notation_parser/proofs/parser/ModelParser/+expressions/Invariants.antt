use Rattle.std.proofs.Common.{◌+◌, ◌*◌}
use Rattle.notation_parser.specs.Levels.{rank}
use Rattle.notation_parser.proofs.parser.ModelParser.+expressions.Given as goal

abbrev pub decreases-chain : goal.decreases-chain
decreases-chain l = l.depth * 64 + rank l.level + 3

abbrev pub decreases-links : goal.decreases-links
decreases-links l = l.depth * 64 + rank l.level + 2

abbrev pub decreases-link : goal.decreases-link
decreases-link l = l.depth * 64 + rank l.level + 1

abbrev pub decreases-operand : goal.decreases-operand
decreases-operand l = l.depth * 64 + rank l.level

abbrev pub decreases-closed : goal.decreases-closed
decreases-closed l = l.depth * 64 + rank l.level + 4

abbrev pub decreases-truth : goal.decreases-truth
decreases-truth l = l.depth * 64 + 50

abbrev pub decreases-compared : goal.decreases-compared
decreases-compared l = l.depth * 64 + 49

abbrev pub decreases-signed : goal.decreases-signed
decreases-signed l = l.depth * 64 + 37

abbrev pub decreases-primary : goal.decreases-primary
decreases-primary l = l.depth * 64 + 36

abbrev pub decreases-spoken : goal.decreases-spoken
decreases-spoken l = l.depth * 64 + 35

abbrev pub decreases-counterpart : goal.decreases-counterpart
decreases-counterpart l = l.depth * 64 + 34

abbrev pub decreases-reference : goal.decreases-reference
decreases-reference l = l.depth * 64 + 33

abbrev pub decreases-index : goal.decreases-index
decreases-index l = l.depth * 64 + 32

abbrev pub decreases-call : goal.decreases-call
decreases-call l = l.depth * 64 + 33

abbrev pub decreases-arguments : goal.decreases-arguments
decreases-arguments l = l.depth * 64 + 61

abbrev pub decreases-each : goal.decreases-each
decreases-each l = l.depth * 64 + 33

abbrev pub decreases-least : goal.decreases-least
decreases-least l = l.depth * 64 + 61

abbrev pub decreases-bound : goal.decreases-bound
decreases-bound l = l.depth * 64 + 63

abbrev pub decreases-body : goal.decreases-body
decreases-body l = l.depth * 64 + 61

abbrev pub decreases-binder : goal.decreases-binder
decreases-binder l = l.depth * 64 + 62

abbrev pub decreases-ranged : goal.decreases-ranged
decreases-ranged l = l.depth * 64 + 61

abbrev pub decreases-range : goal.decreases-range
decreases-range l = l.depth * 64 + 60
