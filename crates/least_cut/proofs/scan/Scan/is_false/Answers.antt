use Rattle.std.proofs.Common.{sym, ◌∙◌}
use Rattle.least_cut.specs.Watches.{TruthsState}
use Rattle.least_cut.proofs.ListLoopLemmas.{found, none_more, none_left}
use Rattle.least_cut.proofs.Truths.{is_false_at}
use Rattle.least_cut.proofs.scan.Scan.is_false.Goals as goal

pub returns-then-is_false : goal.returns-then-is_false
returns-then-is_false c =
    found (λ (t : TruthsState). t.line) (is_false_at c.args.pid.0 c.args.n) c.deref-line-items.ensures.value c.self.view_is
    c.loop-line.line-index c.line-item.result c.line-item.is c.loop-line-test.true (sym c.is_false.ensures ∙ c.if-is_false.true)

pub returns : goal.returns
returns c =
    none_left (λ (t : TruthsState). t.line) (is_false_at c.args.pid.0 c.args.n) c.deref-line-items.ensures.value c.self.view_is
    c.loop-line.line-index c.loop-line-test.false c.loop-line.invariant

pub loop-line-preserved : goal.loop-line-preserved
loop-line-preserved c =
    none_more (λ (t : TruthsState). t.line) (is_false_at c.args.pid.0 c.args.n) c.deref-line-items.ensures.value c.self.view_is
    c.loop-line.line-index c.line-item.result c.line-item.is c.loop-line-test.true (sym c.is_false.ensures ∙ c.if-is_false.false)
    c.loop-line.invariant
