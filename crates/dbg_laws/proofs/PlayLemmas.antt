-- The play of a history makes a legal list of its events. Each other legal list has the same length and the same local states. So if there
-- is one, the play makes all choices and ends where that list ends.
use Rattle.std.proofs.Common.{◌≡◌, ℕ, zero, suc, ◌+◌, List, [], ◌∷◌, length, get_or, set, Option, Some, None, Result, Ok, Err, refl, sym}
use Rattle.std.proofs.Common.{ap, ◌∙◌, subst, arith, ◌≢◌, ◌++◌}
use Rattle.dbg_base.specs.declared.refusal.Refusal.{Refusal}
use Rattle.dbg_base.specs.Trees.{Program}
use Rattle.dbg_base.specs.Configurations.{Configuration, start_of, state_in}
use Rattle.dbg_base.specs.Firing.{fire}
use Rattle.dbg_base.specs.Histories.{History, Progress, opening_of, moved, first_move, move_from, next_move, go_on, play_moves}
use Rattle.dbg_base.specs.Histories.{choice_count, progress_of, play, IsPossible}
use Rattle.dbg_base.specs.Orders.{Event, order_from, order, states_then, states_from, states_of, IsLegalFrom, IsSwap, GoesOver, Stays}
use Rattle.dbg_base.specs.Orders.{Swaps, with_state_of}
use Rattle.dbg_base.specs.LocalStates.{LocalState}
use Rattle.dbg_laws.proofs.OrderSwapLemmas.{IsEmpty, IsOrderOf, first_step, legal_after, bubble, joined}
use Rattle.dbg_laws.proofs.Moves.{diamond, kept_state}
use Rattle.dbg_laws.proofs.Lists.{push, pushes_swap}

-- If the choices have a legal list, the play makes all of them and ends where the list ends.

-- the move that the play makes, if H has the remaining choices of process `first` and the processes after it
pub record Found (P : Program) (from : Progress) (first : ℕ) (H : History) (to : Progress) : Type 0 where
  pub offset : ℕ
  pub process : ℕ
  pub choice : ℕ
  pub rest : List ℕ
  pub reached : Configuration
  pub place : process ≡ first + offset
  pub prefix : get_or H offset [] ≡ choice ∷ rest
  pub fires : fire P from.configuration process choice ≡ Ok reached
  pub leads : to ≡ moved from process rest reached

found_after : (P : Program) (from : Progress) (first : ℕ) (choices : List ℕ) (H : History) (to : Progress)
    → Found P from (first + 1) H to → Found P from first (choices ∷ H) to
found_after P from first choices H to f = record {
  offset = suc f.offset;
  process = f.process;
  choice = f.choice;
  rest = f.rest;
  reached = f.reached;
  place = omega (arith, f.place);
  prefix = f.prefix;
  fires = f.fires;
  leads = f.leads;
}

found_by : (P : Program) (from : Progress) (first k : ℕ) (rest : List ℕ) (H : History) (to : Progress) (r : Result Configuration Refusal)
    → fire P from.configuration first k ≡ r → first_move r from first rest (move_from P from (first + 1) H) ≡ Some to
    → (move_from P from (first + 1) H ≡ Some to → Found P from (first + 1) H to) → Found P from first ((k ∷ rest) ∷ H) to
found_by P from first k rest H to (Ok c) fires e later = record {
  offset = 0;
  process = first;
  choice = k;
  rest = rest;
  reached = c;
  place = omega arith;
  prefix = refl;
  fires = fires;
  leads = cc;
}
found_by P from first k rest H to (Err refusal) fires e later = found_after P from first (k ∷ rest) H to (later e)

pub found : (P : Program) (from : Progress) (first : ℕ) (H : History) (to : Progress) → move_from P from first H ≡ Some to
    → Found P from first H to
found P from first [] to e = cc
found P from first ([] ∷ H) to e = found_after P from first [] H to (found P from (first + 1) H to e)
found P from first ((k ∷ rest) ∷ H) to e =
    found_by P from first k rest H to (fire P from.configuration first k) refl e (λ x. found P from (first + 1) H to x)

-- a next choice that fires is found
fires_later : (P : Program) (c m : Configuration) (first i k : ℕ) → fire P c (first + suc i) k ≡ Ok m → fire P c (first + 1 + i) k ≡ Ok m
fires_later P c m first i k fires =
    let same : first + suc i ≡ first + 1 + i = omega arith in
    subst (λ (p : ℕ). fire P c p k ≡ Ok m) same fires

moves_by : (P : Program) (from : Progress) (first i k l : ℕ) (rest left : List ℕ) (H : History) (m : Configuration)
    (r : Result Configuration Refusal) → fire P from.configuration first l ≡ r → get_or ((l ∷ left) ∷ H) i [] ≡ k ∷ rest
    → fire P from.configuration (first + i) k ≡ Ok m → first_move r from first left (move_from P from (first + 1) H) ≡ None
    → ((j : ℕ) → get_or H j [] ≡ k ∷ rest → fire P from.configuration (first + 1 + j) k ≡ Ok m → move_from P from (first + 1) H ≡ None → ⊥)
    → ⊥
moves_by P from first i k l rest left H m (Ok c) here prefix fires none later = cc
moves_by P from first zero k l rest left H m (Err refusal) here prefix fires none later =
    let place : first + 0 ≡ first = omega arith in
    let there : fire P from.configuration first k ≡ Ok m = subst (λ (p : ℕ). fire P from.configuration p k ≡ Ok m) place fires in
    let same : k ≡ l = cc in
    let both : fire P from.configuration first l ≡ Ok m = subst (λ (x : ℕ). fire P from.configuration first x ≡ Ok m) same there in
    cc
moves_by P from first (suc i) k l rest left H m (Err refusal) here prefix fires none later =
    later i prefix (fires_later P from.configuration m first i k fires) none

pub moves : (P : Program) (from : Progress) (first : ℕ) (H : History) (i k : ℕ) (rest : List ℕ) (m : Configuration)
    → get_or H i [] ≡ k ∷ rest → fire P from.configuration (first + i) k ≡ Ok m → move_from P from first H ≡ None → ⊥
moves P from first [] i k rest m prefix fires none = cc
moves P from first ([] ∷ H) zero k rest m prefix fires none = cc
moves P from first ([] ∷ H) (suc i) k rest m prefix fires none =
    moves P from (first + 1) H i k rest m prefix (fires_later P from.configuration m first i k fires) none
moves P from first ((l ∷ left) ∷ H) i k rest m prefix fires none =
    moves_by P from first i k l rest left H m (fire P from.configuration first l) refl prefix fires none
    (λ j x y z. moves P from (first + 1) H j k rest m x y z)

-- one more move before the others
pub one_move : (n : ℕ) (P : Program) (from to : Progress) (o : Option Progress) → next_move P from ≡ o → o ≡ Some to
    → play_moves (suc n) P from ≡ play_moves n P to
one_move n P from to o e leads = ap (λ (x : Option Progress). go_on from x (play_moves n P)) (e ∙ leads)

pub record Played (n : ℕ) (P : Program) (from : Progress) (d : Configuration) : Type 0 where
  pub ends : (play_moves n P from).configuration ≡ d
  pub all : IsEmpty (play_moves n P from).unplayed

played_by : (n : ℕ) (P : Program) (from : Progress) (d : Configuration) (e : Event) (E : List Event) (o : Option Progress)
    → next_move P from ≡ o → length E ≡ n → order_from P from.configuration (e ∷ E) ≡ Ok d → IsOrderOf from.unplayed (e ∷ E)
    → ((to : Progress) (F : List Event) → length F ≡ n → order_from P to.configuration F ≡ Ok d → IsOrderOf to.unplayed F → Played n P to d)
    → Played (suc n) P from d
played_by n P from d e E None next size legal order later =
    let step = first_step (fire P from.configuration e.process e.choice) (λ x. order_from P x E) d legal in
    let place : e.process ≡ 0 + e.process = omega arith in
    absurd (moves P from 0 from.unplayed e.process e.choice order.0 step.0 order.1
    (subst (λ (p : ℕ). fire P from.configuration p e.choice ≡ Ok step.0) place step.1) next)
played_by n P from d e E (Some to) next size legal order later =
    let f = found P from 0 from.unplayed to next in
    let place : f.offset ≡ f.process = omega (arith, f.place) in
    let prefix : get_or from.unplayed f.process [] ≡ f.choice ∷ f.rest =
    subst (λ (p : ℕ). get_or from.unplayed p [] ≡ f.choice ∷ f.rest) place f.prefix in
    let first = bubble P from.configuration f.reached d from.unplayed (record { process = f.process; choice = f.choice }) f.rest (e ∷ E)
    legal order prefix f.fires in
    let size_there : length first.others ≡ n = omega (arith, first.shorter) in
    let rest = later (moved from f.process f.rest f.reached) first.others size_there first.legal first.order in
    let move = one_move n P from (moved from f.process f.rest f.reached) (Some to) next (ap (λ (x : Progress). Some x) f.leads) in
    record {
      ends = ap (λ (x : Progress). x.configuration) move ∙ rest.ends;
      all = subst (λ (x : Progress). IsEmpty x.unplayed) (sym move) rest.all;
    }

pub plays : (n : ℕ) (P : Program) (from : Progress) (d : Configuration) (E : List Event) → length E ≡ n
    → order_from P from.configuration E ≡ Ok d → IsOrderOf from.unplayed E → Played n P from d
plays zero P from d [] size legal order = record { ends = cc; all = order }
plays zero P from d (e ∷ E) size legal order = absurd (omega arith)
plays (suc n) P from d [] size legal order = absurd (omega arith)
plays (suc n) P from d (e ∷ E) size legal order =
    played_by n P from d e E (next_move P from) refl (omega arith) legal order (λ to F x y z. plays n P to d F x y z)

-- a legal list has as many events as the history has choices
empty_count : (H : History) → IsEmpty H → choice_count H ≡ 0
empty_count [] empty = refl
empty_count (choices ∷ H) empty =
    let none : length choices ≡ 0 = ap (λ (x : List ℕ). length x) empty.0 in
    let rest : choice_count H ≡ 0 = empty_count H empty.1 in
    omega arith

count_without : (H : History) (p k : ℕ) (rest : List ℕ) → get_or H p [] ≡ k ∷ rest → choice_count H ≡ suc (choice_count (set H p rest))
count_without [] p k rest prefix = cc
count_without (choices ∷ H) zero k rest prefix =
    let one : length choices ≡ suc (length rest) = ap (λ (x : List ℕ). length x) prefix in
    omega arith
count_without (choices ∷ H) (suc p) k rest prefix =
    let one : choice_count H ≡ suc (choice_count (set H p rest)) = count_without H p k rest prefix in
    omega arith

pub counted : (H : History) (E : List Event) → IsOrderOf H E → choice_count H ≡ length E
counted H [] order = empty_count H order
counted H (e ∷ E) order =
    let one : choice_count H ≡ suc (choice_count (set H e.process order.0)) = count_without H e.process e.choice order.0 order.1 in
    let rest : choice_count (set H e.process order.0) ≡ length E = counted (set H e.process order.0) E order.2 in
    omega arith

pub possible : (P : Program) (H : History) (E : List Event) (c : Configuration) → order P E ≡ Ok c → IsOrderOf H E
    → IsPossible P H × (play P H ≡ c)
possible P H E c legal order =
    let played = plays (choice_count H) P (opening_of P H) c E (sym (counted H E order)) legal order in
    (played.all, played.ends)

-- The events of a play, from one progress to a later one: a legal list, with the local states on the way.
pub record Listing (P : Program) (from to : Progress) : Type 0 where
  pub events : List Event
  pub order : IsOrderOf from.unplayed events
  pub legal : order_from P from.configuration events ≡ Ok to.configuration
  pub states : states_from P from.configuration from.states events ≡ to.states

listing_after : (P : Program) (from to : Progress) (p k : ℕ) (rest : List ℕ) (m : Configuration) → get_or from.unplayed p [] ≡ k ∷ rest
    → fire P from.configuration p k ≡ Ok m → Listing P (moved from p rest m) to → Listing P from to
listing_after P from to p k rest m prefix fires l = record {
  events = record { process = p; choice = k } ∷ l.events;
  order = (rest, prefix, l.order);
  legal = legal_after P from.configuration m to.configuration (record { process = p; choice = k }) l.events fires l.legal;
  states =
      ap (λ (r : Result Configuration Refusal). states_then r from.states p (λ d later. states_from P d later l.events)) fires ∙ l.states;
}

listing_by : (n : ℕ) (P : Program) (from : Progress) (o : Option Progress) → next_move P from ≡ o
    → IsEmpty (go_on from o (play_moves n P)).unplayed
    → ((to : Progress) → IsEmpty (play_moves n P to).unplayed → Listing P to (play_moves n P to))
    → Listing P from (go_on from o (play_moves n P))
listing_by n P from None next empty later = record { events = []; order = empty; legal = refl; states = refl }
listing_by n P from (Some to) next empty later =
    let f = found P from 0 from.unplayed to next in
    let place : f.offset ≡ f.process = omega (arith, f.place) in
    listing_after P from (play_moves n P to) f.process f.choice f.rest f.reached
    (subst (λ (p : ℕ). get_or from.unplayed p [] ≡ f.choice ∷ f.rest) place f.prefix) f.fires
    (subst (λ (x : Progress). Listing P x (play_moves n P to)) f.leads (later to empty))

pub lists : (n : ℕ) (P : Program) (from : Progress) → IsEmpty (play_moves n P from).unplayed → Listing P from (play_moves n P from)
lists zero P from empty = record { events = []; order = empty; legal = refl; states = refl }
lists (suc n) P from empty = listing_by n P from (next_move P from) refl empty (λ to x. lists n P to x)

-- a possible history has a legal list, with its end and its local states
pub record Listed (P : Program) (H : History) : Type 0 where
  pub events : List Event
  pub takes : IsOrderOf H events
  pub legal : order P events ≡ Ok (play P H)
  pub states : states_of P events ≡ (progress_of P H).states

pub listed : (P : Program) (H : History) → IsPossible P H → Listed P H
listed P H all =
    let l = lists (choice_count H) P (opening_of P H) all in
    record { events = l.events; takes = l.order; legal = l.legal; states = l.states }

-- Let a mark of each event be recorded that events of other processes do not change. Then the record of each process is the same in each
-- order.

-- `from` appends the `mark` of each event to the record of its process
module _ {A : Type 0} (P : Program) (mark : Configuration → Event → A)
    (from : Configuration → List (List A) → List Event → List (List A))
    (step : (c d : Configuration) (lists : List (List A)) (e : Event) (E : List Event) → fire P c e.process e.choice ≡ Ok d
    → from c lists (e ∷ E) ≡ from d (push lists e.process (mark c e)) E)
    (steady : (c d b : Configuration) (e f : Event) → e.process ≢ f.process → fire P c e.process e.choice ≡ Ok d
    → fire P c f.process f.choice ≡ Ok b → mark d f ≡ mark c f) where
  marks_swap : (c : Configuration) (lists : List (List A)) (e f : Event) (E : List Event) (d b g h : Configuration)
      → e.process ≢ f.process → fire P c e.process e.choice ≡ Ok d → fire P d f.process f.choice ≡ Ok g
      → fire P c f.process f.choice ≡ Ok b → fire P b e.process e.choice ≡ Ok h → from c lists (e ∷ f ∷ E) ≡ from c lists (f ∷ e ∷ E)
  marks_swap c lists e f E d b g h apart first second other later =
      let back : f.process ≢ e.process = λ x. apart (sym x) in
      let dia = diamond P c e.process e.choice f.process f.choice d b apart first other in
      let dia_one = dia.one in
      let dia_other = dia.other in
      let meet : g ≡ h = cc in
      step c d lists e (f ∷ E) first
      ∙ step d g (push lists e.process (mark c e)) f E second
      ∙ ap (λ (x : Configuration). from x (push (push lists e.process (mark c e)) f.process (mark d f)) E) meet
      ∙ ap (λ (x : A). from h (push (push lists e.process (mark c e)) f.process x) E) (steady c d b e f apart first other)
      ∙ ap (λ (l : List (List A)). from h l E) (pushes_swap lists e.process f.process (mark c e) (mark c f) apart)
      ∙ ap (λ (x : A). from h (push (push lists f.process (mark c f)) e.process x) E) (sym (steady c b d f e back other first))
      ∙ sym (step b h (push lists f.process (mark c f)) e E later)
      ∙ sym (step c b lists f (e ∷ E) other)

  marks_swap_after : (c d b : Configuration) (lists : List (List A)) (prefix : List Event) (e f : Event) (E : List Event)
      → e.process ≢ f.process → order_from P c (prefix ++ e ∷ f ∷ E) ≡ Ok d → order_from P c (prefix ++ f ∷ e ∷ E) ≡ Ok b
      → from c lists (prefix ++ e ∷ f ∷ E) ≡ from c lists (prefix ++ f ∷ e ∷ E)
  marks_swap_after c d b lists [] e f E apart legal other =
      let first = first_step (fire P c e.process e.choice) (λ x. order_from P x (f ∷ E)) d legal in
      let second = first_step (fire P first.0 f.process f.choice) (λ x. order_from P x E) d first.2 in
      let third = first_step (fire P c f.process f.choice) (λ x. order_from P x (e ∷ E)) b other in
      let fourth = first_step (fire P third.0 e.process e.choice) (λ x. order_from P x E) b third.2 in
      marks_swap c lists e f E first.0 third.0 second.0 fourth.0 apart first.1 second.1 third.1 fourth.1
  marks_swap_after c d b lists (x ∷ prefix) e f E apart legal other =
      let first = first_step (fire P c x.process x.choice) (λ y. order_from P y (prefix ++ e ∷ f ∷ E)) d legal in
      let second = first_step (fire P c x.process x.choice) (λ y. order_from P y (prefix ++ f ∷ e ∷ E)) b other in
      let first_is = first.1 in
      let second_is = second.1 in
      let same : second.0 ≡ first.0 = cc in
      let there : order_from P first.0 (prefix ++ f ∷ e ∷ E) ≡ Ok b =
      subst (λ (y : Configuration). order_from P y (prefix ++ f ∷ e ∷ E) ≡ Ok b) same second.2 in
      step c first.0 lists x (prefix ++ e ∷ f ∷ E) first.1
      ∙ marks_swap_after first.0 d b (push lists x.process (mark c x)) prefix e f E apart first.2 there
      ∙ sym (step c first.0 lists x (prefix ++ f ∷ e ∷ E) first.1)

  goes_legal : (c : Configuration) (E F : List Event) → GoesOver P c E F → IsLegalFrom P c E
  goes_legal c E F (Stays l) = l
  goes_legal c E F (Swaps l swap goes) = l

  one_swap : (c : Configuration) (lists : List (List A)) (E F : List Event) → IsSwap E F → IsLegalFrom P c E → IsLegalFrom P c F
      → from c lists E ≡ from c lists F
  one_swap c lists E F swap legal other =
      ap (λ (X : List Event). from c lists X) swap.before
      ∙ marks_swap_after c legal.0 other.0 lists swap.prefix swap.one swap.other swap.beyond swap.apart
      (subst (λ (X : List Event). order_from P c X ≡ Ok legal.0) swap.before legal.1)
      (subst (λ (X : List Event). order_from P c X ≡ Ok other.0) swap.after other.1)
      ∙ ap (λ (X : List Event). from c lists X) (sym swap.after)

  pub goes_marked : (c : Configuration) (lists : List (List A)) (E F : List Event) → GoesOver P c E F → from c lists E ≡ from c lists F
  goes_marked c lists E F (Stays l) = refl
  goes_marked c lists E F (Swaps {F = D} l swap goes) =
      one_swap c lists E D swap l (goes_legal c D F goes) ∙ goes_marked c lists D F goes

-- The local states on the way are the same in each order.

-- the configuration to which an event led, or c if it did not fire
abbrev beyond : Configuration → Result Configuration Refusal → Configuration
beyond c (Ok d) = d
beyond c (Err refusal) = c

-- the local state of its process after an event
abbrev mark : Program → Configuration → Event → LocalState
mark P c e = state_in (beyond c (fire P c e.process e.choice)) e.process

-- one event
pub states_step : (P : Program) (c d : Configuration) (states : List (List LocalState)) (e : Event) (E : List Event)
    → fire P c e.process e.choice ≡ Ok d → states_from P c states (e ∷ E) ≡ states_from P d (with_state_of states e.process d) E
states_step P c d states e E fires =
    ap (λ (r : Result Configuration Refusal). states_then r states e.process (λ x later. states_from P x later E)) fires

marked : (P : Program) (c d : Configuration) (e : Event) → fire P c e.process e.choice ≡ Ok d → mark P c e ≡ state_in d e.process
marked P c d e fires = ap (λ (r : Result Configuration Refusal). state_in (beyond c r) e.process) fires

step : (P : Program) (c d : Configuration) (states : List (List LocalState)) (e : Event) (E : List Event)
    → fire P c e.process e.choice ≡ Ok d → states_from P c states (e ∷ E) ≡ states_from P d (push states e.process (mark P c e)) E
step P c d states e E fires =
    states_step P c d states e E fires
    ∙ ap (λ (state : LocalState). states_from P d (push states e.process state) E) (sym (marked P c d e fires))

steady : (P : Program) (c d b : Configuration) (e f : Event) → e.process ≢ f.process → fire P c e.process e.choice ≡ Ok d
    → fire P c f.process f.choice ≡ Ok b → mark P d f ≡ mark P c f
steady P c d b e f apart first other =
    let dia = diamond P c e.process e.choice f.process f.choice d b apart first other in
    marked P d dia.meet f dia.one ∙ kept_state P b dia.meet e.process e.choice f.process apart dia.other ∙ sym (marked P c b f other)

goes_states : (P : Program) (c : Configuration) (states : List (List LocalState)) (E F : List Event) → GoesOver P c E F
    → states_from P c states E ≡ states_from P c states F
goes_states P = goes_marked P (mark P) (states_from P) (step P) (steady P)

-- the local states of a legal list are those of the play of its history
pub same_states : (P : Program) (H : History) (E : List Event) (c : Configuration) → order P E ≡ Ok c → IsOrderOf H E → IsPossible P H
    → states_of P E ≡ (progress_of P H).states
same_states P H E c legal takes all =
    let l = listed P H all in
    goes_states P (start_of P) _ E l.events (joined P (start_of P) c _ H E l.events legal l.legal takes l.takes) ∙ l.states
