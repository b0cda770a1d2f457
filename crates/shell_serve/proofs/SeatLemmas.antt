-- The seats of a run.
use Rattle.std.proofs.Common.{◌≡◌, ℕ, suc, ◌-◌, ◌<◌, ◌≤◌, List, get_or, ◌∙◌, arith}
use Rattle.dbg_base.specs.declared.limits.TheConstants.{SEATS}
use Rattle.dbg_desk.specs.Desks.{SeatState}
use Rattle.shell_serve.specs.Answering.{AreAllSeats}

-- the seat that is looked up by a number has this number
pub is_number : (seats : List SeatState) (n : ℕ) (other : SeatState) → AreAllSeats seats → 0 < n → n ≤ SEATS
    → (get_or seats (n - 1) other).number ≡ n
is_number seats n other are some few =
    let within : n - 1 < SEATS = omega (arith, some, few) in
    let at : suc (n - 1) ≡ n = omega (arith, some) in
    are.numbered (n - 1) other within ∙ at
