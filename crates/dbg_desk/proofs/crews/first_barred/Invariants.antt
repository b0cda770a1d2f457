use Rattle.std.proofs.Common.{take}
use Rattle.dbg_desk.specs.Crews.{NoneBarred}
use Rattle.dbg_desk.proofs.crews.first_barred.Given as goal

abbrev pub invariant-loop-place : goal.invariant-loop-place
invariant-loop-place g l = NoneBarred (take l.place l.workers)
