use Rattle.std.proofs.Common.{◌+◌, ◌*◌}
use Rattle.notation_programs.proofs.environment.Environment.+evaluation.Given as goal

abbrev pub decreases-value : goal.decreases-value
decreases-value l = l.depth * 8

abbrev pub decreases-number : goal.decreases-number
decreases-number l = l.depth * 8 + 1

abbrev pub decreases-truth : goal.decreases-truth
decreases-truth l = l.depth * 8 + 1

abbrev pub decreases-link : goal.decreases-link
decreases-link l = l.depth * 8 + 2

abbrev pub decreases-chain : goal.decreases-chain
decreases-chain l = l.depth * 8 + 3

abbrev pub decreases-holds : goal.decreases-holds
decreases-holds l = l.depth * 8 + 2

abbrev pub decreases-range : goal.decreases-range
decreases-range l = l.depth * 8 + 3

abbrev pub decreases-at_member : goal.decreases-at_member
decreases-at_member l = l.depth * 8 + 1

abbrev pub decreases-sum : goal.decreases-sum
decreases-sum l = l.depth * 8 + 2

abbrev pub decreases-at_least : goal.decreases-at_least
decreases-at_least l = l.depth * 8 + 2

abbrev pub decreases-each : goal.decreases-each
decreases-each l = l.depth * 8 + 5

abbrev pub decreases-least : goal.decreases-least
decreases-least l = l.depth * 8 + 2
