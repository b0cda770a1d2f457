-- Workers that give orders for their seats.
use Rattle.std.specs.Prelude.{◌≡◌, ℕ, ◌<◌, ◌≤◌, List, [], ◌∷◌, length, take, drop, min, Option, Some, None, MatchOption, slice_get}
use Rattle.std.specs.List.{AllByRecursion}
use Rattle.dbg_base.specs.declared.said.Said.{Said}
use Rattle.dbg_base.specs.Calls.{Order, Give}
use Rattle.dbg_desk.specs.declared.crews.CrewFault.{CrewFault}
use Rattle.dbg_desk.specs.declared.crews.CrewFault.TheVariants.{Gate}
use Rattle.dbg_desk.specs.Desks.{SeatState, Records}

-- a worker's seat, the orders that it has to give, and the turn from which a gate barred it, if one did
pub record WorkerState : Type 0 where
  pub seat : SeatState
  pub orders : List Order
  pub barred : Option ℕ

-- The seat gave these orders, one after the other. Each was appended to the seat's own calls, or was not entered.
abbrev pub Gives : SeatState → List Order → SeatState → Type 0
Gives seat [] after = after ≡ seat
Gives seat (order ∷ orders) after =
    (said : Said) × (between : SeatState) × Records seat (Give order) said between × Gives between orders after

-- What a worker does in a crew: it gives all its orders one after the other, or those before the turn from which it is barred.
pub record Works (MayBar : ℕ → Type 0) (old new : WorkerState) : Type 0 where
  pub given : ℕ
  pub few : given ≤ length old.orders
  pub gives : Gives old.seat (take given old.orders) new.seat
  pub left : new.orders ≡ drop given old.orders
  pub ended : MatchOption new.barred (given ≡ length old.orders) (λ turn. (turn ≡ given) × (given < length old.orders) × MayBar turn)

-- the number by which a gate knows the worker at this position: the position, up to 4,294,967,295
abbrev pub worker_number : ℕ → ℕ
worker_number place = min place 4294967295

-- no worker was barred
abbrev pub NoneBarred : List WorkerState → Type 0
NoneBarred workers = AllByRecursion (λ worker. worker.barred ≡ None) workers

-- The worker that the fault names is the first that was barred, and was barred from that turn.
abbrev pub IsFirstBarred : List WorkerState → CrewFault → Type 0
IsFirstBarred workers (Gate worker turn) =
    (place : ℕ) × (first : WorkerState) × (slice_get workers place ≡ Some first) × (first.barred ≡ Some turn)
    × (worker ≡ worker_number place) × NoneBarred (take place workers)

-- the gate may bar the worker that the fault names from that turn
abbrev pub MayBarAt : (ℕ → ℕ → Type 0) → CrewFault → Type 0
MayBarAt may_bar (Gate worker turn) = may_bar worker turn

-- Commands that a worker may have to give: none was applied yet, and each turn has a number.
pub record AreOrders {C : Type 0} (IsFresh : C → Type 0) (orders : List C) : Type 0 where
  pub fresh : AllByRecursion IsFresh orders
  pub few : length orders ≤ 4294967295
