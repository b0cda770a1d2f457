-- A worker's orders, one turn after the other.
use Rattle.std.proofs.Common.{◌≡◌, ℕ, zero, suc, ◌+◌, ◌<◌, ◌≤◌, List, [], ◌∷◌, ◌++◌, length, take, drop, map, get_or, Option, Some, None, refl, sym, ap, ◌∙◌, subst, arith}
use Rattle.std.specs.Prelude.{MatchOption}
use Rattle.std.specs.List.{AllByRecursion}
use Rattle.std.proofs.lemmas.List.{take_more, drop-drop, get_or-drop, length-drop}
use Rattle.dbg_base.specs.declared.said.Said.{Said}
use Rattle.dbg_base.specs.Calls.{Order, Give}
use Rattle.dbg_desk.specs.Desks.{SeatState, Records}
use Rattle.dbg_desk.specs.Crews.{WorkerState, Gives, Works, AreOrders}

-- one more order
pub gives_more : (seat between after : SeatState) (orders : List Order) (order : Order) → Gives seat orders between
    → Gives between (order ∷ []) after → Gives seat (orders ++ order ∷ []) after
gives_more seat between after [] order gives more = subst (λ (s : SeatState). Gives s (order ∷ []) after) gives more
gives_more seat between after (first ∷ orders) order (said, next, records, gives) more =
    (said, next, records, gives_more next between after orders order gives more)

-- the state after so many turns
pub record HasGiven (old : WorkerState) (seat : SeatState) (left : List Order) (barred : Option ℕ) (turn : ℕ) : Type 0 where
  pub gives : Gives old.seat (take turn old.orders) seat
  pub left_is : left ≡ drop turn old.orders
  pub free : barred ≡ None

module _ (MayBar : ℕ → Type 0) (old : WorkerState) (seat : SeatState) (left : List Order) (barred : Option ℕ) (turn : ℕ)
    (has : HasGiven old seat left barred turn) where
  -- one more turn
  pub given_more : (after : SeatState) (order : Order) → turn < length old.orders → order ≡ get_or old.orders turn order
      → Gives seat (order ∷ []) after → (more : List Order) → more ≡ drop 1 left → HasGiven old after more barred (turn + 1)
  given_more after order here is gives more rest = record {
    gives = subst (λ (l : List Order). Gives old.seat l after)
        (ap (λ (o : Order). take turn old.orders ++ o ∷ []) is ∙ sym (take_more old.orders turn order here))
        (gives_more old.seat seat after (take turn old.orders) order has.gives gives);
    left_is = rest ∙ ap (λ (l : List Order). drop 1 l) has.left_is ∙ drop-drop 1 turn old.orders;
    free = has.free;
  }

  -- the gate barred the worker
  pub barred_at : (now : Option ℕ) → turn < length old.orders → now ≡ Some turn → MayBar turn
      → Works MayBar old (record { seat = seat; orders = left; barred = now })
  barred_at now here is may = record {
    given = turn;
    few = omega (arith, here);
    gives = has.gives;
    left = has.left_is;
    ended = subst (λ (b : Option ℕ). MatchOption b (turn ≡ length old.orders) (λ at. (at ≡ turn) × (turn < length old.orders) × MayBar at))
        (sym is) (refl, here, may);
  }

  -- all were given
  pub all_given : length old.orders ≤ turn → turn ≤ length old.orders
      → Works MayBar old (record { seat = seat; orders = left; barred = barred })
  all_given low high = record {
    given = turn;
    few = high;
    gives = has.gives;
    left = has.left_is;
    ended = subst (λ (b : Option ℕ). MatchOption b (turn ≡ length old.orders) (λ at. (at ≡ turn) × (turn < length old.orders) × MayBar at))
        (sym has.free) (omega (arith, low, high));
  }

module _ {C : Type 0} (order_of : C → Order) (old : WorkerState) (seat after : SeatState) (barred : Option ℕ) (turn : ℕ)
    (within : turn < length old.orders) where
  -- the first of the orders that were left was given
  pub turn_more : (items more : List C) → HasGiven old seat (map order_of items) barred turn
      → Gives seat (map order_of (take 1 items)) after → more ≡ drop 1 items → HasGiven old after (map order_of more) barred (turn + 1)
  turn_more [] more has gives rest =
      let size = ap (λ (l : List Order). length l) has.left_is in
      let left = length-drop turn old.orders in
      absurd (omega (arith, within, size, left))
  turn_more (item ∷ items) more has gives rest =
      let is : order_of item ≡ get_or old.orders turn (order_of item) =
      ap (λ (l : List Order). get_or l 0 (order_of item)) has.left_is ∙ get_or-drop turn old.orders 0 (order_of item)
      ∙ ap (λ (n : ℕ). get_or old.orders n (order_of item)) (let zero_more : turn + 0 ≡ turn = omega arith in zero_more) in
      given_more (λ n. ⊥) old seat (order_of item ∷ map order_of items) barred turn has after (order_of item) within is gives
      (map order_of more) (ap (λ (l : List C). map order_of l) rest)

-- orders that may be given still may be without the first one
pub fewer_orders : {C : Type 0} (IsFresh : C → Type 0) (items more : List C) → AllByRecursion IsFresh more → more ≡ drop 1 items
    → AreOrders IsFresh items → AreOrders IsFresh more
fewer_orders IsFresh items more fresh rest are = record {
  fresh = fresh;
  few = let size = ap (λ l. length l) rest in let left = length-drop 1 items in let most = are.few in omega (arith, size, left, most);
}
