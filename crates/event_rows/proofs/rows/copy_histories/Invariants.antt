use Rattle.std.proofs.Common.{◌≡◌, map, take}
use Rattle.event_rows.proofs.rows.copy_histories.Given as goal

abbrev pub invariant-loop-history : goal.invariant-loop-history
invariant-loop-history l = map (λ history. history.events) l.made.items ≡ map (λ history. history.events) (take l.history-index l.histories.items)
