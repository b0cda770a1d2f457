use Rattle.ui_repl.proofs.PlainLineLemmas.{ok_more, made_none, made_some, whole_played}
use Rattle.ui_repl.proofs.read_line.put_plain.Goals as goal

pub returns-in-Some : goal.returns-in-Some
returns-in-Some c =
    ok_more c.put_repeated.result _ _
    (λ again same. whole_played c.args.line.now c.bare-bare.result.now c.as_slice.result.now c.is_single.result _ c.bare-bare.ensures
    c.is_single.ensures c.if-is_single.false (made_some c.bare-bare.result.now c.as_slice.result.now c.in_ok-whole.field-0 c.in-Some.whole c.in-Some.is c.as_slice.ensures.value c.in_ok-whole.ensures) same) c.put_repeated.ensures

pub returns-in-None : goal.returns-in-None
returns-in-None c =
    ok_more c.put_repeated-in-None.result _ _
    (λ again same. whole_played c.args.line.now c.bare-bare.result.now c.bare-bare.result.now c.is_single.result _ c.bare-bare.ensures
    c.is_single.ensures c.if-is_single.false (made_none c.bare-bare.result.now c.in_ok-whole.field-0 c.in-None.is c.in_ok-whole.ensures) same) c.put_repeated-in-None.ensures
