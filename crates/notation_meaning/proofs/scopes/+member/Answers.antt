use Rattle.std.proofs.Common.{ap, ◌∙◌}
use Rattle.notation_meaning.specs.AgreementViews.{last_value}
use Rattle.notation_meaning.proofs.AgreementScopes.{member_within}
use Rattle.notation_meaning.proofs.scopes.+member.Goals as goal

pub returns-in-Members : goal.returns-in-Members
returns-in-Members t c =
    rw (c.in-Members.is, member_within)
    (c.last_value.ensures ∙ ap (last_value c.in-Members.members.now c.args.number) c.member.ensures)
