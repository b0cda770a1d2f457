use Rattle.least_cut.proofs.ListLoopLemmas.{Became}
use Rattle.least_cut.proofs.WatchLoopLemmas.{HasRoomFor}
use Rattle.least_cut.proofs.watches.reserve_each.Given as goal

abbrev pub invariant-loop-i : goal.invariant-loop-i
invariant-loop-i l = Became (HasRoomFor l.cut) l.fn.watches.items l.watches.items l.i
