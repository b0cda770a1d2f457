use Rattle.std.proofs.Common.{◌≡◌, ◌++◌, map, take}
use Rattle.notation_meaning.specs.AgreementViews.{members_of, longer_members}
use Rattle.notation_meaning.proofs.families.put_places.Given as goal

-- there is a place for each value so far
abbrev pub invariant-loop-value : goal.invariant-loop-value
invariant-loop-value l =
    map members_of l.found.items ≡ map members_of l.initial.found.items ++ longer_members l.place l.member (take l.value-index l.values)
