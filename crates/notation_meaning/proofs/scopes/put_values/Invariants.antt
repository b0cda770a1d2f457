use Rattle.std.proofs.Common.{◌≡◌, ◌++◌, map, take}
use Rattle.notation_meaning.proofs.scopes.put_values.Given as goal

-- the values so far were appended
abbrev pub invariant-loop-member : goal.invariant-loop-member
invariant-loop-member l = l.found.items ≡ l.initial.found.items ++ map (λ m. m.value) (take l.member-index l.members)
