use Rattle.std.proofs.Common.{length}
use Rattle.notation_meaning.proofs.AgreementFamilies.{NameGoes}
use Rattle.notation_meaning.proofs.names.member_name.Given as goal

-- the members that are left belong after the name so far
abbrev pub invariant-loop-first : goal.invariant-loop-first
invariant-loop-first l = NameGoes l.fn.name l.members l.whole.items l.rest

abbrev pub decreases-loop-first : goal.decreases-loop-first
decreases-loop-first l = length l.rest
