use Rattle.std.proofs.Common.{◌≡◌, take}
use Rattle.least_cut.proofs.watches.copy_watches.Given as goal

abbrev pub invariant-loop-watch : goal.invariant-loop-watch
invariant-loop-watch l = l.made.items ≡ take l.watch-index l.watches.items
