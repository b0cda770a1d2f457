use Rattle.std.proofs.Common.{◌≡◌, ◌+◌, ◌<◌, ◌≤◌, length, drop, sym, ap, ◌∙◌, subst, arith}
use Rattle.std.proofs.lemmas.Bool.{eqb-true, eqb-false}
use Rattle.std.proofs.lemmas.List.Sums.{prefix_len-le-length}
use Rattle.dbg_base.specs.declared.limits.TheConstants.{OPEN_PARENTHESES}
use Rattle.dbg_base.specs.Tokens.{is_space, still_open}
use Rattle.proc_lang.specs.Scanning.{token_of, MeetsFault}
use Rattle.proc_lang.proofs.LexerStepLemmas.{only_spaces, takes_token, meets_fault, meets_limit}
use Rattle.proc_lang.proofs.lexer.Lexer.next_token.Goals as goal

pub pass-requires : goal.pass-requires
pass-requires c = omega (arith, c.space_length.ensures, prefix_len-le-length is_space c.args.self.now.rest.now)

pub returns-then-is_empty : goal.returns-then-is_empty
returns-then-is_empty c =
    only_spaces c.args.self.now.rest.now c.pass.new.self.rest.now c.space_length.result c.space_length.ensures c.pass.ensures.rest
    (eqb-true (length c.pass.new.self.rest.now) 0 (sym c.if-is_empty.ensures))

pub returns-in-Err-count : goal.returns-in-Err-count
returns-in-Err-count c =
    let at_limit = c.in-Err-count.ensures.depth in
    subst (λ f. MeetsFault c.args.self.now.rest.now c.args.self.now.at c.args.self.now.depth f) (sym at_limit.0)
    (meets_limit c.args.self.now.rest.now c.pass.new.self.rest.now c.space_length.result c.space_length.ensures c.pass.ensures.rest
    c.args.self.now.at c.pass.new.self.at c.args.self.now.depth c.in-Ok.length
    (token_of c.in-Ok.token) c.pass.ensures.at c.in-Ok.ensures.0 at_limit.1 (sym c.pass.ensures.depth ∙ at_limit.2))

pub returns-in-Ok-count : goal.returns-in-Ok-count
returns-in-Ok-count c =
    let counted = c.in-Ok-count.ensures.depth in
    let beyond : c.pass-in-Ok-count.new.self.depth ≡ still_open c.args.self.now.depth (token_of c.in-Ok.token) =
    c.pass-in-Ok-count.ensures.depth ∙ counted.0 ∙ ap (λ d. still_open d (token_of c.in-Ok.token)) c.pass.ensures.depth in
    let shallow : c.pass-in-Ok-count.new.self.depth ≤ OPEN_PARENTHESES = omega (arith, counted.1, c.pass-in-Ok-count.ensures.depth) in
    let others : c.pass-in-Ok-count.new.self.rest.now ≡ drop c.in-Ok.length c.pass.new.self.rest.now =
    cc (c.pass-in-Ok-count.ensures.rest, c.in-Ok-count.ensures.rest) in
    let end : c.pass-in-Ok-count.new.self.at ≡ c.pass.new.self.at + c.in-Ok.length =
    omega (arith, c.pass-in-Ok-count.ensures.at, c.in-Ok-count.ensures.at) in
    takes_token c.args.self.now.rest.now c.pass.new.self.rest.now c.space_length.result c.space_length.ensures c.pass.ensures.rest
    c.args.self.now.at c.pass.new.self.at c.args.self.now.depth c.pass-in-Ok-count.new.self.at c.pass-in-Ok-count.new.self.depth
    c.in-Ok.length (token_of c.in-Ok.token) c.pass-in-Ok-count.new.self.rest.now c.pass.ensures.at c.in-Ok.ensures.0 c.in-Ok.ensures.1
    beyond shallow others end

pub returns-in-Err : goal.returns-in-Err
returns-in-Err c =
    let none = eqb-false (length c.pass.new.self.rest.now) 0 (sym c.if-is_empty.ensures) in
    let some : 0 < length c.pass.new.self.rest.now = omega arith in
    meets_fault c.args.self.now.rest.now c.pass.new.self.rest.now c.space_length.result c.space_length.ensures c.pass.ensures.rest
    c.args.self.now.at c.pass.new.self.at c.args.self.now.depth c.in-Err.kind c.pass.ensures.at some c.in-Err.ensures
