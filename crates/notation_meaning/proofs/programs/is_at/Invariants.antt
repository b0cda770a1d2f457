use Rattle.std.proofs.Common.{◌≡◌, length, map}
use Rattle.notation_meaning.proofs.programs.is_at.Given as goal

-- all are the same, if those are that are left
abbrev pub invariant-loop-member : goal.invariant-loop-member
invariant-loop-member l = map (λ m. m.value) l.rest ≡ l.left → map (λ m. m.value) l.members ≡ l.values

abbrev pub decreases-loop-member : goal.decreases-loop-member
decreases-loop-member l = length l.rest
