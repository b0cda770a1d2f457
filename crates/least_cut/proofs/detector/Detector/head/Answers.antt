use Rattle.std.proofs.Common.{◌≡◌, ℕ, Bool, true, false, sym, ap, subst, ◌∙◌, if◌then◌else◌}
use Rattle.dbg_base.specs.declared.said.Head.TheVariants.{At, Past}
use Rattle.least_cut.specs.Watches.{WatchRoom}
use Rattle.least_cut.specs.Detectors.{lines_of}
use Rattle.least_cut.proofs.ListLoopLemmas.{found, none_more, none_left}
use Rattle.least_cut.proofs.Truths.{is_past_at}
use Rattle.least_cut.proofs.DetectorResultLemmas.{other_line}
use Rattle.least_cut.proofs.detector.Detector.head.Goals as goal
use Rattle.least_cut.proofs.detector.Detector.head.Goals.{else-pid-p-via-then-pid-p+else-is_past, else-pid-p-via-else-pid-p}

pub returns-then-is_past : goal.returns-then-is_past
returns-then-is_past c =
    ap (λ (past : Bool). if past then Past else At c.args.n)
    (found (λ (watch : WatchRoom). watch.state.line) (is_past_at c.args.p c.args.n) c.deref-watch-items.ensures.value
    (ap lines_of c.self.view_is) c.loop-watch.watch-index c.watch-item.result c.watch-item.is c.loop-watch-test.true
    (subst (λ (p : ℕ). is_past_at p c.args.n c.watch-item.result.state.line ≡ true) c.if-pid-p.true
    (sym c.is_past.ensures ∙ c.if-is_past.true)))

pub loop-watch-preserved : goal.loop-watch-preserved
loop-watch-preserved c =
    let line = c.watch-item.result.state.line in
    let fails : is_past_at c.args.p c.args.n line ≡ false =
    elim c.else-pid-p.branch [
      | else-pid-p-via-then-pid-p+else-is_past w ↦
          subst (λ (p : ℕ). is_past_at p c.args.n line ≡ false) w.if-pid-p.true (sym w.is_past.ensures ∙ w.if-is_past.false)
      | else-pid-p-via-else-pid-p w ↦ other_line line c.pid-pid.result.0 c.args.p c.args.n c.pid-pid.ensures w.if-pid-p.false
    ] in
    none_more (λ (watch : WatchRoom). watch.state.line) (is_past_at c.args.p c.args.n) c.deref-watch-items.ensures.value
    (ap lines_of c.self.view_is) c.loop-watch.watch-index c.watch-item.result c.watch-item.is c.loop-watch-test.true fails
    c.loop-watch.invariant

pub returns : goal.returns
returns c =
    ap (λ (past : Bool). if past then Past else At c.args.n)
    (none_left (λ (watch : WatchRoom). watch.state.line) (is_past_at c.args.p c.args.n) c.deref-watch-items.ensures.value
    (ap lines_of c.self.view_is) c.loop-watch.watch-index c.loop-watch-test.false c.loop-watch.invariant)
