use Rattle.std.proofs.Common.{not, sym, ap, ◌∙◌}
use Rattle.least_cut.specs.Watches.{WatchRoom}
use Rattle.least_cut.specs.Detectors.{lines_of, is_own_past}
use Rattle.least_cut.proofs.ListLoopLemmas.{found, none_more, none_left}
use Rattle.least_cut.proofs.DetectorResultLemmas.{own_said}
use Rattle.least_cut.proofs.detector.Detector.has_cut.Goals as goal

pub returns-then-is_past : goal.returns-then-is_past
returns-then-is_past c =
    let candidates = c.args.self.now.candidates in
    ap (λ b. not b)
    (found (λ (watch : WatchRoom). watch.state.line) (is_own_past candidates) c.deref-watch-items.ensures.value
    (ap lines_of c.self.view_is) c.loop-watch.watch-index c.watch-item.result c.watch-item.is c.loop-watch-test.true
    (sym (own_said candidates c.watch-item.result.state.line c.pid-pid.result.0 c.candidate.result c.pid-pid.ensures c.candidate.ensures)
    ∙ sym c.is_past.ensures ∙ c.if-is_past.true))

pub loop-watch-preserved : goal.loop-watch-preserved
loop-watch-preserved c =
    let candidates = c.args.self.now.candidates in
    none_more (λ (watch : WatchRoom). watch.state.line) (is_own_past candidates) c.deref-watch-items.ensures.value
    (ap lines_of c.self.view_is) c.loop-watch.watch-index c.watch-item.result c.watch-item.is c.loop-watch-test.true
    (sym (own_said candidates c.watch-item.result.state.line c.pid-pid.result.0 c.candidate.result c.pid-pid.ensures c.candidate.ensures)
    ∙ sym c.is_past.ensures ∙ c.if-is_past.false)
    c.loop-watch.invariant

pub returns : goal.returns
returns c =
    ap (λ b. not b)
    (none_left (λ (watch : WatchRoom). watch.state.line) (is_own_past c.args.self.now.candidates) c.deref-watch-items.ensures.value
    (ap lines_of c.self.view_is) c.loop-watch.watch-index c.loop-watch-test.false c.loop-watch.invariant)
