use Rattle.std.proofs.Common.{Option, Result, Ok, subst}
use Rattle.dbg_base.specs.declared.refusal.Refusal.{Refusal}
use Rattle.shell_parse.specs.declared.line.Line.{Line}
use Rattle.shell_parse.specs.Lines.{IsParsed}
use Rattle.shell_serve.proofs.CommandReplyLemmas.{none_replied, refusal_replied}
use Rattle.shell_serve.proofs.line.answer_parsed.Goals as goal

pub returns-in-Ok-Some-clause-answers : goal.returns-in-Ok-Some-clause-answers
returns-in-Ok-Some-clause-answers g c =
    λ bytes parsed.
    c.answer_call.ensures.answers bytes
    (subst (λ (o : Option Line). IsParsed g.L.Run.program bytes (Ok o)) c.in-Ok-Some.field-0-is
    (subst (λ (r : Result (Option Line) Refusal). IsParsed g.L.Run.program bytes r) c.in-Ok-Some.is parsed))

pub returns-in-Ok-None-clause-answers : goal.returns-in-Ok-None-clause-answers
returns-in-Ok-None-clause-answers g c =
    λ bytes parsed.
    none_replied g.T.Observer.manner (g.F.ReplyForm.Shows c.args.form.now) g.L.Run.program bytes c.args.locked.now.journal _ c.requires.quiet
    (subst (λ (o : Option Line). IsParsed g.L.Run.program bytes (Ok o)) c.in-Ok-None.field-0-is
    (subst (λ (r : Result (Option Line) Refusal). IsParsed g.L.Run.program bytes r) c.in-Ok-None.is parsed))

pub returns-in-Err-clause-answers : goal.returns-in-Err-clause-answers
returns-in-Err-clause-answers g c =
    λ bytes parsed.
    refusal_replied g.T.Observer.manner (g.F.ReplyForm.Shows c.args.form.now) g.L.Run.program bytes c.args.locked.now.journal c.in-Err.refusal _ _
    (subst (λ (r : Result (Option Line) Refusal). IsParsed g.L.Run.program bytes r) c.in-Err.is parsed)
    c.refuse_line.ensures.told
