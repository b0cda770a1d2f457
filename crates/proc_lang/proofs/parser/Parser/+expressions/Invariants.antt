use Rattle.std.proofs.Common.{◌+◌, ◌*◌, length}
use Rattle.proc_lang.proofs.parser.Parser.+expressions.Given as goal

abbrev pub decreases-expression : goal.decreases-expression
decreases-expression l = length l.self.now.rest.now * 3 + 1

abbrev pub decreases-parentheses : goal.decreases-parentheses
decreases-parentheses l = length l.self.now.rest.now * 3

abbrev pub decreases-negation : goal.decreases-negation
decreases-negation l = length l.self.now.rest.now * 3 + 1

abbrev pub decreases-negative : goal.decreases-negative
decreases-negative l = length l.self.now.rest.now * 3 + 1

abbrev pub decreases-binary : goal.decreases-binary
decreases-binary l = length l.self.now.rest.now * 3 + 2
