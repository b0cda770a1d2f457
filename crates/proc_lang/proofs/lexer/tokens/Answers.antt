use Rattle.std.proofs.Common.{arith, inr}
use Rattle.proc_lang.proofs.TokenLists.{after_pushed, has_tokens, has_fault}
use Rattle.proc_lang.proofs.lexer.tokens.Goals as goal

pub loop-at-preserved : goal.loop-at-preserved
loop-at-preserved c =
    after_pushed c.args.text.now c.loop-at.tokens.items c.push.new.self.items c.loop-at.lexer.at c.loop-at.lexer.depth
    c.loop-at.lexer.rest.now c.in-Ok-Some.field-0-0 c.next_token.new.self.rest.now c.next_token.new.self.at c.next_token.new.self.depth
    c.in_ok-push-in-Ok-Some.ensures.items c.loop-at.invariant (rw c.in-Ok-Some.field-0-is at c.in-Ok-Some.ensures)

pub returns-in-Ok-None : goal.returns-in-Ok-None
returns-in-Ok-None c =
    has_tokens c.args.text.now _ c.loop-at.lexer.at c.loop-at.lexer.depth c.loop-at.lexer.rest.now (omega arith) c.loop-at.invariant
    (rw c.in-Ok-None.field-0-is at c.in-Ok-None.ensures)

pub returns-in-Err : goal.returns-in-Err
returns-in-Err c =
    inr (
      omega arith,
      has_fault c.args.text.now _ c.loop-at.lexer.at c.loop-at.lexer.depth c.loop-at.lexer.rest.now c.in-Err.found
          c.loop-at.invariant c.in-Err.ensures,
    )
