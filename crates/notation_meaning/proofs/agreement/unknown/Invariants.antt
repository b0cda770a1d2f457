use Rattle.std.proofs.Common.{◌≡◌, None, replicate}
use Rattle.notation_meaning.proofs.agreement.unknown.Given as goal

-- there are so many so far
abbrev pub invariant-loop : goal.invariant-loop
invariant-loop l = l.constants.items ≡ replicate l.counter None
