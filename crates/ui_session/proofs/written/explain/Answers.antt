use Rattle.std.proofs.Common.{sym, subst}
use Rattle.ui_session.proofs.DialogueLemmas.{Explains, explains_none, explains_more, explains_ends, explains_stops}
use Rattle.ui_session.proofs.written.explain.Goals as goal
use Rattle.ui_session.proofs.written.explain.Goals.{in-Some+in_ok-write_line, in_default}

pub loop-number-init : goal.loop-number-init
loop-number-init g c = explains_none _

pub loop-number-preserved : goal.loop-number-preserved
loop-number-preserved g c =
    let old = g.W.Sink.seen c.args.writer.now in
    elim c.match-content_of.branch [
      | in-Some+in_ok-write_line w ↦
          subst (λ x. Explains old (g.W.Sink.seen x)) (sym w.writer-is)
          (explains_more _ _ _ _ c.loop-number.invariant w.in-Some.ensures.unended w.in_ok-write_line.ensures)
      | in_default w ↦ subst (λ x. Explains old (g.W.Sink.seen x)) (sym w.writer-is) c.loop-number.invariant
    ]

pub returns-in_err-write_line : goal.returns-in_err-write_line
returns-in_err-write_line g c = record {
  written = explains_stops _ _ _ _ c.loop-number.invariant c.in-Some.ensures.unended c.in_err-write_line.ensures c.from_residual.ensures.1;
}

pub returns : goal.returns
returns g c = record { written = explains_ends _ _ c.loop-number.invariant }
