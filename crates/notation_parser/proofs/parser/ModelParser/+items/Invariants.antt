use Rattle.std.proofs.Common.{◌+◌, ◌*◌}
use Rattle.notation_parser.proofs.parser.ModelParser.+items.Given as goal

abbrev pub decreases-items : goal.decreases-items
decreases-items l = l.depth * 4 + 2

abbrev pub decreases-item : goal.decreases-item
decreases-item l = l.depth * 4 + 1

abbrev pub decreases-repeat : goal.decreases-repeat
decreases-repeat l = l.depth * 4

abbrev pub decreases-block : goal.decreases-block
decreases-block l = l.depth * 4 + 3
