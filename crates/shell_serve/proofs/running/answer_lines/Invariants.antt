use Rattle.std.proofs.Common.{◌≡◌}
use Rattle.shell_io.specs.declared.health.Health.TheVariants.{Fine}
use Rattle.shell_serve.specs.Answering.{AreAllSeats}
use Rattle.shell_serve.proofs.SessionLemmas.{Answered}
use Rattle.shell_serve.proofs.running.answer_lines.Given as goal

abbrev pub invariant-loop-span : goal.invariant-loop-span
invariant-loop-span g l = record {
  ready : g.S.LineSource.Ready l.source l.reader;
  seats : AreAllSeats l.seats;
  answered : Answered g.S.LineSource.Gives g.T.Observer.manner (g.F.ReplyForm.Shows l.form) g.L.Run.program l.fn.source l.fn.reader l.source l.reader l.locked.journal
      (g.W.Sink.seen l.fn.writer) (g.W.Sink.seen l.writer);
  reader : g.R.Source.health l.fn.reader ≡ Fine → g.R.Source.health l.reader ≡ Fine;
  writer : (g.W.Sink.seen l.fn.writer).health ≡ Fine → (g.W.Sink.seen l.writer).health ≡ Fine;
}

-- the lines that the source may still give
abbrev pub decreases-loop-span : goal.decreases-loop-span
decreases-loop-span g l = g.S.LineSource.left l.source
