use Rattle.std.proofs.Common.{ℕ, List, Option, Ok, subst}
use Rattle.dbg_command.specs.Tables.{IsCutOf, state_of}
use Rattle.dbg_command.proofs.CommandAnswerLemmas.{went_to, no_cut, not_there, consistent_least}
use Rattle.dbg_command.proofs.CommandUndoLemmas.{if_refused}
use Rattle.dbg_command.proofs.table.Table.go_to.Goals as goal

pub roll_to-requires-clause-of : goal.roll_to-requires-clause-of
roll_to-requires-clause-of c = c.requires

pub roll_to-requires-clause-cut : goal.roll_to-requires-clause-cut
roll_to-requires-clause-cut c =
    let P = c.requires.0 in
    let least = subst (λ (cut : Option (List ℕ)). IsCutOf P (state_of c.args.self.now) c.args.name (Ok cut)) c.in-Ok-Some.field-0-is
    (c.in-Ok-Some.ensures.of P c.requires.1) in
    consistent_least P c.args.self.now.world c.requires.1.world least.0.conjuncts c.in-Ok-Some.cut least.2

pub returns-in-Ok-Some-clause-acts : goal.returns-in-Ok-Some-clause-acts
returns-in-Ok-Some-clause-acts c = λ P is.
    went_to P (state_of c.args.self.now) (state_of c.roll_to.new.self) c.args.name c.in-Ok-Some.cut c.roll_to.result
    (subst (λ (cut : Option (List ℕ)). IsCutOf P (state_of c.args.self.now) c.args.name (Ok cut)) c.in-Ok-Some.field-0-is
    (c.in-Ok-Some.ensures.of P is)) (c.roll_to.ensures.back P is)

pub returns-in-Ok-None-clause-acts : goal.returns-in-Ok-None-clause-acts
returns-in-Ok-None-clause-acts c = λ P is.
    no_cut P (state_of c.args.self.now) c.args.name
    (subst (λ (cut : Option (List ℕ)). IsCutOf P (state_of c.args.self.now) c.args.name (Ok cut)) c.in-Ok-None.field-0-is
    (c.in-Ok-None.ensures.of P is))

pub returns-in-Err-clause-acts : goal.returns-in-Err-clause-acts
returns-in-Err-clause-acts c = λ P is.
    not_there P (state_of c.args.self.now) c.args.name c.in-Err.refusal (c.in-Err.ensures.of P is)

pub returns-in-Ok-Some-clause-memory : goal.returns-in-Ok-Some-clause-memory
returns-in-Ok-Some-clause-memory c =
    let P = c.requires.0 in
    let least = subst (λ (cut : Option (List ℕ)). IsCutOf P (state_of c.args.self.now) c.args.name (Ok cut)) c.in-Ok-Some.field-0-is
    (c.in-Ok-Some.ensures.of P c.requires.1) in
    if_refused c.roll_to.result (least.0, least.1)
