use Rattle.std.proofs.Common.{◌≡◌, length}
use Rattle.notation_meaning.specs.AgreementViews.{constants_of}
use Rattle.notation_meaning.proofs.constants.are_same.Given as goal

-- all are the same, if those are that are left
abbrev pub invariant-loop-one : goal.invariant-loop-one
invariant-loop-one l = constants_of l.rest ≡ constants_of l.left → constants_of l.constants ≡ constants_of l.others

abbrev pub decreases-loop-one : goal.decreases-loop-one
decreases-loop-one l = length l.rest
