use Rattle.std.proofs.Common.{length, map}
use Rattle.proc_lang.specs.Scanning.{placed_of}
use Rattle.proc_lang.proofs.TokenLists.{IsAfter}
use Rattle.proc_lang.proofs.lexer.tokens.Given as goal

abbrev pub invariant-loop-at : goal.invariant-loop-at
invariant-loop-at l = IsAfter l.text (map placed_of l.tokens.items) l.lexer.at l.lexer.depth l.lexer.rest.now

abbrev pub decreases-loop-at : goal.decreases-loop-at
decreases-loop-at l = length l.lexer.rest.now
