use Rattle.std.proofs.Common.{sym}
use Rattle.ui_causes.proofs.WriteLemmas.{last_written, unwritten_more}
use Rattle.ui_causes.proofs.origin.last_write.Goals as goal

pub returns-in-Some : goal.returns-in-Some
returns-in-Some c =
    last_written c.args.named _ _ c.loop-left.left c.args.n c.in-Some.found c.loop-left-test.true (sym c.in-Some.ensures)
    c.loop-left.invariant

pub loop-left-preserved : goal.loop-left-preserved
loop-left-preserved c =
    unwritten_more c.args.named _ _ c.loop-left.left c.args.n c.loop-left-test.true (sym c.in-None.ensures) c.loop-left.invariant
