use Rattle.std.proofs.Common.{◌+◌, ◌*◌}
use Rattle.notation_programs.proofs.building.Builder.+copies.Given as goal

abbrev pub decreases-items : goal.decreases-items
decreases-items l = l.depth * 2 + 1

abbrev pub decreases-repeat : goal.decreases-repeat
decreases-repeat l = l.depth * 2
