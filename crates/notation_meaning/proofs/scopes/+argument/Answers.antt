use Rattle.std.proofs.Common.{◌-◌, arith}
use Rattle.std.proofs.lemmas.Option.{slice_get-get_or}
use Rattle.notation_meaning.proofs.AgreementScopes.{argument_within, argument_here}
use Rattle.notation_meaning.proofs.scopes.+argument.Goals as goal

pub returns-in-Members : goal.returns-in-Members
returns-in-Members t c = rw (c.in-Members.is, argument_within) c.argument.ensures

pub returns-then-number-first : goal.returns-then-number-first
returns-then-number-first t c =
    rw c.in-Call.is
    (argument_here c.in-Call.first c.args.number c.in-Call.arguments.now _ _ (omega arith) (omega arith)
    (slice_get-get_or c.in-Call.arguments.now (c.args.number - c.in-Call.first) _ (omega arith)))
