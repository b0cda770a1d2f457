use Rattle.std.proofs.Common.{◌≡◌, length, map, take}
use Rattle.cut_core.proofs.tally.copy_histories.Given as goal

abbrev pub invariant-loop-history : goal.invariant-loop-history
invariant-loop-history l =
    (map (λ history. history.kinds) l.made.items ≡ map (λ history. history.kinds) (take l.history-index l.histories.items))
    × (length l.made.items ≡ l.history-index)
