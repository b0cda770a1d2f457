use Rattle.std.proofs.Common.{◌≡◌, ℕ, ◌<◌, ◌≤◌, get_or}
use Rattle.dbg_desk.specs.Desks.{SeatState, entry_of}
use Rattle.dbg_desk.specs.Finding.{IsFound}
use Rattle.dbg_desk.proofs.settling.find_all.Given as goal

abbrev pub invariant-loop-place : goal.invariant-loop-place
invariant-loop-place g l = record {
  found : (k : ℕ) (d : SeatState) → k < l.place → IsFound (entry_of l.entry) (get_or l.seats k d) (get_or l.initial.found k 0) (get_or l.found k 0);
  others : (k : ℕ) → l.place ≤ k → get_or l.found k 0 ≡ get_or l.initial.found k 0;
}
