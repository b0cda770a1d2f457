use Rattle.std.proofs.Common.{rules, arith}
use Rattle.notation_meaning.proofs.Outcomes.{on_ok}
use Rattle.notation_meaning.proofs.AgreementCommands.{assignments_end, assignments_step}
use Rattle.notation_meaning.proofs.commands.+assignments.Goals as goal

pub returns-else-found-ne0 : goal.returns-else-found-ne0
returns-else-found-ne0 t c =
    assignments_end _ _ _ _ c.in-None.ensures.cases (first_of (search rules, omega arith, grind arith))

pub returns-in_ok-means-in-Some : goal.returns-in_ok-means-in-Some
returns-in_ok-means-in-Some t c =
    on_ok c.assignments.result c.assignments.ensures (λ x h. assignments_step _ _ _ _ _ _ c.in-Some.node.now c.in-Some-split_first.first.now c.in-Some.ensures.cases.0
    c.in-Some-split_first.ensures.cases.0 c.in_ok-names_variable-in-Some.ensures c.in_ok-means-in-Some.ensures h)
