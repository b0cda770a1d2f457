use Rattle.std.proofs.Common.{◌≡◌, length}
use Rattle.notation_meaning.specs.AgreementViews.{last_value}
use Rattle.notation_meaning.proofs.scopes.last_value.Given as goal

-- the members that are left decide as all do
abbrev pub invariant-loop-first : goal.invariant-loop-first
invariant-loop-first l = last_value l.rest l.number l.found ≡ last_value l.members l.number l.fn.outside

abbrev pub decreases-loop-first : goal.decreases-loop-first
decreases-loop-first l = length l.rest
