use Rattle.std.proofs.Common.{ap, sym, ◌∙◌}
use Rattle.std.specs.Option.{option_map}
use Rattle.shell_serve.proofs.SessionLemmas.{before_stops, line_said, lost_said, directive_said, command_said, answer_ok, answer_err, flushed}
use Rattle.shell_serve.proofs.line.answer_line.Goals as goal

pub returns-in_err-before-clause-answers : goal.returns-in_err-before-clause-answers
returns-in_err-before-clause-answers g c =
    λ legal. before_stops g.T.Observer.manner (g.F.ReplyForm.Shows c.args.form.now) g.L.Run.program _ c.args.locked.now.journal _ _ c.requires.quiet legal c.in_err-before.ensures
    c.from_residual.ensures.1

pub returns-in_default-clause-answers : goal.returns-in_default-clause-answers
returns-in_default-clause-answers g c =
    λ legal. lost_said g.T.Observer.manner (g.F.ReplyForm.Shows c.args.form.now) g.L.Run.program _ c.args.locked.now.journal _ _ _
    (ap (option_map (λ bytes. bytes.now)) c.in_default.is) c.in_ok-before.ensures c.refuse_line.ensures.told

pub returns-in_err-hand_on-clause-answers : goal.returns-in_err-hand_on-clause-answers
returns-in_err-hand_on-clause-answers g c =
    λ legal. line_said g.T.Observer.manner (g.F.ReplyForm.Shows c.args.form.now) g.L.Run.program _ c.in-Some.played.now c.args.locked.now.journal _ _ _ _
    (ap (option_map (λ bytes. bytes.now)) c.in-Some.is) c.in_ok-before.ensures
    (answer_err _ _ _ _ _ _ _ _ (directive_said g.T.Observer.manner (g.F.ReplyForm.Shows c.args.form.now) g.L.Run.program c.in-Some.played.now c.args.locked.now.journal _ _
    (sym c.sort-kind.ensures.directive ∙ c.if-kind.true) (flushed c.direct-answered.ensures c.in_err-hand_on.ensures)) c.from_residual-in_err-hand_on.ensures.1)

pub returns-then-kind-clause-answers : goal.returns-then-kind-clause-answers
returns-then-kind-clause-answers g c =
    λ legal. line_said g.T.Observer.manner (g.F.ReplyForm.Shows c.args.form.now) g.L.Run.program _ c.in-Some.played.now c.args.locked.now.journal _ _ _ _
    (ap (option_map (λ bytes. bytes.now)) c.in-Some.is) c.in_ok-before.ensures
    (answer_ok _ _ _ _ _ _ _ _ (directive_said g.T.Observer.manner (g.F.ReplyForm.Shows c.args.form.now) g.L.Run.program c.in-Some.played.now c.args.locked.now.journal _ _
    (sym c.sort-kind.ensures.directive ∙ c.if-kind.true) (flushed c.direct-answered.ensures c.in_ok-hand_on.ensures)))

pub returns-in_err-answer-clause-answers : goal.returns-in_err-answer-clause-answers
returns-in_err-answer-clause-answers g c =
    λ legal. line_said g.T.Observer.manner (g.F.ReplyForm.Shows c.args.form.now) g.L.Run.program _ c.in-Some.played.now c.args.locked.now.journal _ _ _ _
    (ap (option_map (λ bytes. bytes.now)) c.in-Some.is) c.in_ok-before.ensures
    (answer_err _ _ _ _ _ _ _ _ (command_said g.T.Observer.manner (g.F.ReplyForm.Shows c.args.form.now) g.L.Run.program c.in-Some.played.now c.args.locked.now.journal _ _ _
    (sym c.sort-kind.ensures.directive ∙ c.if-kind.false) c.in_err-answer.ensures.answers) c.from_residual-in_err-answer.ensures.1)

pub returns-clause-answers : goal.returns-clause-answers
returns-clause-answers g c =
    λ legal. line_said g.T.Observer.manner (g.F.ReplyForm.Shows c.args.form.now) g.L.Run.program _ c.in-Some.played.now c.args.locked.now.journal _ _ _ _
    (ap (option_map (λ bytes. bytes.now)) c.in-Some.is) c.in_ok-before.ensures
    (answer_ok _ _ _ _ _ _ _ _ (command_said g.T.Observer.manner (g.F.ReplyForm.Shows c.args.form.now) g.L.Run.program c.in-Some.played.now c.args.locked.now.journal _ _ _
    (sym c.sort-kind.ensures.directive ∙ c.if-kind.false) c.in_ok-answer.ensures.answers))
