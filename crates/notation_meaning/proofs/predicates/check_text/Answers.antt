use Rattle.std.proofs.Common.{subst}
use Rattle.notation_meaning.specs.AgreementViews.{scope_of, setting_of}
use Rattle.notation_meaning.specs.PlainExpressions.{Means}
use Rattle.notation_meaning.proofs.Outcomes.{on_ok}
use Rattle.notation_meaning.proofs.predicates.check_text.Goals as goal

pub returns-in-Ok : goal.returns-in-Ok
returns-in-Ok c =
    let setting = setting_of (record { known = c.args.known; program = c.args.played.now.program; own = c.args.pid }) in
    on_ok c.means.result c.means.ensures (λ x h t reads. subst
    (λ z. Means setting (scope_of c.args.scope.now) c.args.expression.now z) (c.in-Ok.ensures.accepts t reads) h)

pub returns-in-Err-Bad : goal.returns-in-Err-Bad
returns-in-Err-Bad c t reads = absurd (rw c.in-Err-Bad.field-0-is at (c.in-Err-Bad.ensures.accepts t reads))
