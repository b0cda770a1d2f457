use Rattle.std.proofs.Common.{◌++◌, map, ap, ◌∙◌}
use Rattle.notation_meaning.proofs.AgreementScopes.{values_within}
use Rattle.notation_meaning.proofs.scopes.+values.Goals as goal

pub returns-in_ok-put_values-in-Members : goal.returns-in_ok-put_values-in-Members
returns-in_ok-put_values-in-Members t c =
    rw (c.in-Members.is, values_within)
    (c.in_ok-put_values-in-Members.ensures ∙ ap (λ xs. xs ++ map (λ m. m.value) c.in-Members.members.now) c.in_ok-found-in-Members.ensures)
