use Rattle.std.proofs.Common.{sym, ◌∙◌}
use Rattle.shell_serve.specs.declared.framing.Next.TheVariants.{Line, End, TooLong}
use Rattle.shell_serve.proofs.SessionLemmas.{returned, none_answered, line_answered, line_ends, line_stops, source_ends, source_fails, source_is_too_long}
use Rattle.shell_serve.proofs.running.answer_lines.Goals as goal

pub loop-span-init : goal.loop-span-init
loop-span-init g c = record {
  ready = c.requires.ready;
  seats = c.requires.opened.1;
  answered = none_answered g.S.LineSource.Gives g.T.Observer.manner (g.F.ReplyForm.Shows c.args.form.now) g.L.Run.program _ _ _ _ c.requires.opened.0;
  reader = λ fine. fine;
  writer = λ fine. fine;
}

pub loop-span-preserved : goal.loop-span-preserved
loop-span-preserved g c =
    let answered = c.loop-span.invariant.answered in
    let gave =
    returned g.S.LineSource.Gives g.S.LineSource.Stops g.S.LineSource.Holds g.S.LineSource.left _ _ _ _ _ c.in_ok-span.ensures.advances
    (Line c.in-Line.span) c.in-Line.is in
    let wrote = c.in_ok-last-in-Line.ensures.answers answered.legal in
    record {
      ready = c.advance.ensures.ready;
      seats = c.answer_line.ensures.seats;
      answered =
          line_answered g.S.LineSource.Gives g.S.LineSource.Stops g.T.Observer.manner (g.F.ReplyForm.Shows c.args.form.now) g.L.Run.program _ _ _ _ _ _ _ answered _ _ _ gave.0
          gave.1 (c.line-line.ensures gave.0 gave.2) _ _ wrote (sym c.in_ok-last-in-Line.ensures.goes_on ∙ sym c.if-is_end.ensures);
      reader = λ fine. c.in_ok-span.ensures.reader (c.loop-span.invariant.reader fine);
      writer = λ fine. wrote.written.whole.fine (c.loop-span.invariant.writer fine);
    }

pub returns-in_err-span-clause-plays : goal.returns-in_err-span-clause-plays
returns-in_err-span-clause-plays g c =
    source_fails g.S.LineSource.Gives g.S.LineSource.Stops g.T.Observer.manner (g.F.ReplyForm.Shows c.args.form.now) g.L.Run.program _ _ _ _ _ _ _
    c.loop-span.invariant.answered _ _ _ c.from_residual.result c.in_err-span.ensures.advances c.in_err-span.ensures.fault
    c.from_residual.ensures.1

pub returns-in_err-last-in-Line-clause-plays : goal.returns-in_err-last-in-Line-clause-plays
returns-in_err-last-in-Line-clause-plays g c =
    let answered = c.loop-span.invariant.answered in
    let gave =
    returned g.S.LineSource.Gives g.S.LineSource.Stops g.S.LineSource.Holds g.S.LineSource.left _ _ _ _ _ c.in_ok-span.ensures.advances
    (Line c.in-Line.span) c.in-Line.is in
    line_stops g.S.LineSource.Gives g.S.LineSource.Stops g.T.Observer.manner (g.F.ReplyForm.Shows c.args.form.now) g.L.Run.program _ _ _ _ _ _ _ answered _ _ _ gave.0 gave.1
    (c.line-line.ensures gave.0 gave.2) _ _ c.from_residual-in_err-last-in-Line.result
    (c.in_err-last-in-Line.ensures.answers answered.legal) c.in_err-last-in-Line.ensures.fault
    c.from_residual-in_err-last-in-Line.ensures.1

pub returns-then-is_end-clause-plays : goal.returns-then-is_end-clause-plays
returns-then-is_end-clause-plays g c =
    let answered = c.loop-span.invariant.answered in
    let gave =
    returned g.S.LineSource.Gives g.S.LineSource.Stops g.S.LineSource.Holds g.S.LineSource.left _ _ _ _ _ c.in_ok-span.ensures.advances
    (Line c.in-Line.span) c.in-Line.is in
    line_ends g.S.LineSource.Gives g.S.LineSource.Stops g.T.Observer.manner (g.F.ReplyForm.Shows c.args.form.now) g.L.Run.program _ _ _ _ _ _ _ answered _ _ _ gave.0 gave.1
    (c.line-line.ensures gave.0 gave.2) _ _ (c.in_ok-last-in-Line.ensures.answers answered.legal)
    (sym c.in_ok-last-in-Line.ensures.goes_on ∙ sym c.if-is_end.ensures)

pub returns-in-End-clause-plays : goal.returns-in-End-clause-plays
returns-in-End-clause-plays g c =
    source_ends g.S.LineSource.Gives g.S.LineSource.Stops g.T.Observer.manner (g.F.ReplyForm.Shows c.args.form.now) g.L.Run.program _ _ _ _ _ _ _
    c.loop-span.invariant.answered _ _
    (returned g.S.LineSource.Gives g.S.LineSource.Stops g.S.LineSource.Holds g.S.LineSource.left _ _ _ _ _ c.in_ok-span.ensures.advances
    End c.in-End.is)

pub returns-in-TooLong-clause-plays : goal.returns-in-TooLong-clause-plays
returns-in-TooLong-clause-plays g c =
    source_is_too_long g.S.LineSource.Gives g.S.LineSource.Stops g.T.Observer.manner (g.F.ReplyForm.Shows c.args.form.now) g.L.Run.program _ _ _ _ _ _ _
    c.loop-span.invariant.answered _ _ c.tell_too_long.result _
    (returned g.S.LineSource.Gives g.S.LineSource.Stops g.S.LineSource.Holds g.S.LineSource.left _ _ _ _ _ c.in_ok-span.ensures.advances
    TooLong c.in-TooLong.is) c.tell_too_long.ensures.written c.tell_too_long.ensures.served
