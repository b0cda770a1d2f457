use Rattle.std.proofs.Common.{◌≡◌, map}
use Rattle.ui_diagram.proofs.LogLemmas.{counted_below}
use Rattle.ui_diagram.proofs.log.counted.Given as goal

abbrev pub invariant-loop-p : goal.invariant-loop-p
invariant-loop-p l = map (λ pid. pid.0) l.pids.items ≡ counted_below l.clock l.p
