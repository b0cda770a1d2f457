use Rattle.std.proofs.Common.{sym, ◌∙◌, arith}
use Rattle.break_book.proofs.HaltLemmas.{first_here, none_more, none_halts}
use Rattle.break_book.proofs.book.first_halting.Goals as goal

pub returns-then-halts : goal.returns-then-halts
returns-then-halts c =
    first_here c.args.breaks.now.entries c.loop-i.i c.index.result.now c.index.ensures c.loop-i.invariant
    (sym c.halts.ensures ∙ c.if-halts.true)

pub loop-i-preserved : goal.loop-i-preserved
loop-i-preserved c =
    none_more c.args.breaks.now.entries c.loop-i.i c.index.result.now c.index.ensures c.loop-i.invariant
    (sym c.halts.ensures ∙ c.if-halts.false)

pub returns : goal.returns
returns c =
    c.len.ensures.len
    ∙ none_halts c.args.breaks.now.entries c.loop-i.i c.loop-i.invariant (omega (arith, c.loop-i-test.false, c.len-i-end.ensures.len))
