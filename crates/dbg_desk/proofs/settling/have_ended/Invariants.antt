use Rattle.std.proofs.Common.{◌≡◌, ℕ, ◌<◌, length, get_or}
use Rattle.dbg_desk.specs.Desks.{SeatState}
use Rattle.dbg_desk.proofs.settling.have_ended.Given as goal

abbrev pub invariant-loop-place : goal.invariant-loop-place
invariant-loop-place g l = (k : ℕ) (d : SeatState) → k < l.place → length (get_or l.seats k d).own ≡ get_or l.found k 0
