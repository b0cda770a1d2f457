use Rattle.std.proofs.Common.{◌≡◌, map, take}
use Rattle.cut_core.proofs.history.copy_lists.Given as goal

abbrev pub invariant-loop-list : goal.invariant-loop-list
invariant-loop-list l = map (λ list. list.places) l.made.items ≡ map (λ list. list.places) (take l.list-index l.lists.items)
