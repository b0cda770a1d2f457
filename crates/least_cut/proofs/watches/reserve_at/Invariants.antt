use Rattle.least_cut.proofs.ListLoopLemmas.{Became}
use Rattle.least_cut.proofs.WatchLoopLemmas.{HasRoomAt}
use Rattle.least_cut.proofs.watches.reserve_at.Given as goal

abbrev pub invariant-loop-i : goal.invariant-loop-i
invariant-loop-i l = Became (HasRoomAt l.pid.0 l.states) l.fn.watches.items l.watches.items l.i
