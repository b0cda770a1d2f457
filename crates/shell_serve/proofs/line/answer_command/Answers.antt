use Rattle.std.proofs.Common.{◌≡◌, ◌++◌, ℕ, Bool, List, Option, Result, codes, Some, Ok, sym, subst, inl}
use Rattle.dbg_base.specs.declared.refusal.Refusal.{Refusal}
use Rattle.dbg_base.specs.CommandLines.{Request}
use Rattle.dbg_base.specs.Requests.{Asks}
use Rattle.dbg_base.specs.Trees.{Program}
use Rattle.shell_parse.specs.declared.line.Line.{Line}
use Rattle.shell_parse.specs.Lines.{IsParsed, process_request}
use Rattle.shell_serve.specs.Sessions.{IsSeated}
use Rattle.shell_serve.proofs.line.answer_command.Goals as goal
use Rattle.shell_serve.proofs.line.answer_command.Goals.{then-needs_seat, else-needs_seat+in_default}

pub returns-in-Some-clause-answers : goal.returns-in-Some-clause-answers
returns-in-Some-clause-answers g c =
    let line = c.args.played.now in
    let asks : Asks g.L.Run.program line (Ok (Some (process_request c.in-Some.short))) =
    subst (λ (Q : Program). Asks Q line (Ok (Some (process_request c.in-Some.short)))) c.program-else-needs_seat.ensures c.in-Some.ensures.asks in
    let seated = g.T.Observer.manner.seated line in
    let is : seated ≡ line = subst (λ (own : Bool). IsSeated own line seated) c.if-needs_seat.false c.requires.seated in
    rw is (c.answer_call.ensures.answers line
    (inl (subst (λ (r : Request). Asks g.L.Run.program line (Ok (Some r))) (sym c.line-asked.ensures.asks) asks)))

pub answer_parsed-requires-clause-refuses : goal.answer_parsed-requires-clause-refuses
answer_parsed-requires-clause-refuses g c κs within =
    elim c.if-needs_seat.branch [
      | then-needs_seat x ↦ (codes "1 " ++ c.args.played.now, rw x.parsed-is x.parse_seatless_line-parsed.ensures.refuses)
      | else-needs_seat+in_default x ↦ (c.args.played.now, rw x.parsed-is x.parse_line.ensures.refuses)
    ]

same_parsed : (P Q : Program) (line : List ℕ) (parsed own : Result (Option Line) Refusal) → Q ≡ P → parsed ≡ own → IsParsed Q line own
    → IsParsed P line parsed
same_parsed P Q line parsed own of is asks =
    subst (λ (r : Result (Option Line) Refusal). IsParsed P line r) (sym is) (subst (λ (R : Program). IsParsed R line own) of asks)

pub returns-clause-answers : goal.returns-clause-answers
returns-clause-answers g c =
    let line = c.args.played.now in
    let seated = g.T.Observer.manner.seated line in
    let parsed = c.if-needs_seat.parsed in
    elim c.if-needs_seat.branch [
      | then-needs_seat x ↦
          let is : seated ≡ codes "1 " ++ line = subst (λ (own : Bool). IsSeated own line seated) x.if-needs_seat.true c.requires.seated in
          rw is (c.answer_parsed.ensures.answers (codes "1 " ++ line)
          (same_parsed _ _ _ parsed _ x.program.ensures x.parsed-is x.parse_seatless_line-parsed.ensures.asks))
      | else-needs_seat+in_default x ↦
          let is : seated ≡ line = subst (λ (own : Bool). IsSeated own line seated) x.if-needs_seat.false c.requires.seated in
          rw is (c.answer_parsed.ensures.answers line
          (same_parsed _ _ _ parsed _ x.program-in_default.ensures x.parsed-is x.parse_line.ensures.asks))
    ]
