use Rattle.std.proofs.Common.{sym, ap, ◌∙◌}
use Rattle.least_cut.specs.Watches.{WatchRoom}
use Rattle.least_cut.specs.Detectors.{lines_of}
use Rattle.least_cut.proofs.ListLoopLemmas.{found, none_more, none_left}
use Rattle.least_cut.proofs.Truths.{is_false_at}
use Rattle.least_cut.proofs.detector.Detector.is_false.Goals as goal

pub returns-then-is_false : goal.returns-then-is_false
returns-then-is_false c =
    found (λ (watch : WatchRoom). watch.state.line) (is_false_at c.args.pid.0 c.args.n) c.deref-watch-items.ensures.value
    (ap lines_of c.self.view_is) c.loop-watch.watch-index c.watch-item.result c.watch-item.is c.loop-watch-test.true
    (sym c.is_false.ensures ∙ c.if-is_false.true)

pub returns : goal.returns
returns c =
    none_left (λ (watch : WatchRoom). watch.state.line) (is_false_at c.args.pid.0 c.args.n) c.deref-watch-items.ensures.value
    (ap lines_of c.self.view_is) c.loop-watch.watch-index c.loop-watch-test.false c.loop-watch.invariant

pub loop-watch-preserved : goal.loop-watch-preserved
loop-watch-preserved c =
    none_more (λ (watch : WatchRoom). watch.state.line) (is_false_at c.args.pid.0 c.args.n) c.deref-watch-items.ensures.value
    (ap lines_of c.self.view_is) c.loop-watch.watch-index c.watch-item.result c.watch-item.is c.loop-watch-test.true
    (sym c.is_false.ensures ∙ c.if-is_false.false) c.loop-watch.invariant
