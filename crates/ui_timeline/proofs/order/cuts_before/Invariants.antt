use Rattle.std.proofs.Common.{◌≡◌, ◌≤◌, map, take}
use Rattle.ui_timeline.specs.FirstCuts.{cuts_before}
use Rattle.ui_timeline.proofs.order.cuts_before.Given as goal

abbrev pub invariant-loop-cut : goal.invariant-loop-cut
invariant-loop-cut l = record {
  counted : l.count ≡ cuts_before (map (λ c. c.now) (take l.cut-index l.cuts)) l.world.state l.pid.0;
  few : l.count ≤ l.cut-index;
}
