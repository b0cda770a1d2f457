use Rattle.least_cut.proofs.ListLoopLemmas.{Became}
use Rattle.least_cut.proofs.WatchLoopLemmas.{IsWatchedAgain}
use Rattle.least_cut.proofs.watches.watch_each.Given as goal

abbrev pub invariant-loop-i : goal.invariant-loop-i
invariant-loop-i l = Became (IsWatchedAgain l.world) l.fn.watches.items l.watches.items l.i
