use Rattle.std.proofs.Common.{ℕ, List, map, ap, ◌∙◌, arith}
use Rattle.std.proofs.lemmas.List.{map-append}
use Rattle.dbg_base.specs.declared.ids.Pid.{Pid}
use Rattle.ui_diagram.proofs.LogLemmas.{counted_more, counted_same}
use Rattle.ui_diagram.proofs.log.counted.Goals as goal
use Rattle.ui_diagram.proofs.log.counted.Goals.{then-count-gt0+in_ok-push, else-count-gt0}

abbrev numbers : List Pid → List ℕ
numbers pids = map (λ (pid : Pid). pid.0) pids

pub loop-p-preserved : goal.loop-p-preserved
loop-p-preserved c =
    elim c.if-count-gt0.branch [ then-count-gt0+in_ok-push w ↦ ap (λ pids. numbers pids.items) w.pids-is ∙ ap numbers w.in_ok-push.ensures.items ∙ map-append _ c.loop-p.pids.items _ ∙ counted_more c.args.clock.now _ c.loop-p.p c.loop-p.invariant (omega arith) | else-count-gt0 w ↦ ap (λ pids. numbers pids.items) w.pids-is ∙ counted_same c.args.clock.now _ c.loop-p.p c.loop-p.invariant (omega arith) ]
