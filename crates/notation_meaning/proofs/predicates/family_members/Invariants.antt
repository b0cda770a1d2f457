use Rattle.std.proofs.Common.{◌≡◌, length}
use Rattle.notation_meaning.specs.ModelScopes.{Scope}
use Rattle.notation_meaning.specs.CommandLines.{family_scope}
use Rattle.notation_meaning.specs.AgreementViews.{with_members}
use Rattle.notation_meaning.proofs.predicates.family_members.Given as goal

-- the ranges that are left belong after the members so far
abbrev pub invariant-loop-binder : goal.invariant-loop-binder
invariant-loop-binder l =
    (s : Scope) → family_scope l.ranges l.values s ≡ family_scope l.rest l.left (with_members l.members.items s)

abbrev pub decreases-loop-binder : goal.decreases-loop-binder
decreases-loop-binder l = length l.rest
