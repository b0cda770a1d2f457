use Rattle.std.proofs.Common.{◌≡◌, length, map, take}
use Rattle.clock_rows.proofs.clocks.copy_histories.Given as goal

abbrev pub invariant-loop-history : goal.invariant-loop-history
invariant-loop-history l =
    (length l.made.items ≡ l.history-index)
    × (map (λ history. history.width) l.made.items ≡ map (λ history. history.width) (take l.history-index l.histories.items))
    × (map (λ history. history.rows) l.made.items ≡ map (λ history. history.rows) (take l.history-index l.histories.items))
