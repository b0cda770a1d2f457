-- What the calls of a world require of its program, and what they leave. The clocks of a world, and the cut of a rollback.
use Rattle.std.proofs.Common.{◌≡◌, ℕ, ◌-◌, ◌<◌, ℤ, List, [], ◌∷◌, ◌++◌, length, get_or, Option, Some, Result, Ok, Err, refl}
use Rattle.std.proofs.Common.{sym, ap, ◌∙◌, subst, arith, ◌≤◌, set, map}
use Rattle.std.specs.Prelude.{OnErr, slice_get, OnOk}
use Rattle.std.specs.Option.{option_to_list}
use Rattle.std.proofs.lemmas.Option.{slice_get_within}
use Rattle.std.proofs.lemmas.List.{length-map, length-take-le, length-set, get_or-map, ext_get_or}
use Rattle.dbg_base.specs.declared.limits.TheConstants.{EVENTS}
use Rattle.dbg_base.specs.Trees.{Program}
use Rattle.dbg_base.specs.LocalStates.{LocalState}
use Rattle.dbg_base.specs.SystemStates.{SystemState, line_of, place_at, history_of, after_choice, after_redo, IsStateOf}
use Rattle.dbg_base.specs.Configurations.{Configuration}
use Rattle.dbg_base.specs.Firing.{fire}
use Rattle.dbg_base.specs.Orders.{with_last}
use Rattle.dbg_base.specs.Reversal.{MayUndo, without_last, IsRollback}
use Rattle.dbg_base.specs.Histories.{History}
use Rattle.dbg_base.specs.Cuts.{IsAtMost}
use Rattle.dbg_base.specs.Clocks.{IsClock}
use Rattle.cut_core.specs.declared.kind.Kind.{Kind}
use Rattle.cut_core.specs.ConsistentCuts.{IsConsistentCut, places}
use Rattle.event_rows.specs.declared.exchange.Exchange.{Exchange}
use Rattle.event_rows.specs.EventValues.{EventValue}
use Rattle.fifo_grid.specs.Grids.{GridState}
use Rattle.dbg_laws.proofs.PrefixLemmas.{one_more}
use Rattle.dbg_laws.proofs.ConsistentCutLemmas.{line_at}
use Rattle.dbg_laws.proofs.LineStates.{length_cut, history_choice, history_redo, state_choice, state_redo}
use Rattle.causal_world.specs.Scenes.{Scene, scene, IsWorldOf, made, unmade, with_done}
use Rattle.causal_world.specs.Worlds.{IsSomeWorld, Makes, CanMake, UndoableBy, last_event}
use Rattle.causal_world.specs.Pasts.{PastState, kind_at, kinds_of, kind_done, with_kind, without_kind, IsWhole, AreClocksOf, row_at}
use Rattle.causal_world.specs.Pasts.{IsClockOf}
use Rattle.causal_world.specs.Room.{HasRoomBefore}
use Rattle.causal_world.specs.Rollings.{CanTakeBack}
use Rattle.causal_world.proofs.HistoryRecordLemmas.{length_kinds, kinds_at, kind_event, kinds_more, kinds_less, whole_kinds, clock_kinds, rolled_back}
use Rattle.causal_world.proofs.WorldOfLemmas.{goes_on, get_last}
use Rattle.causal_world.proofs.LastEventLemmas.{states_there, last_made}

pub can_here : (w : Scene) (p k : ℕ) (event : EventValue) → CanMake w p k event → p < length w.standing.states
can_here w p k event can = let there = can.2.here in omega (arith, states_there can.0 w can.1)

-- the kinds of the events in the world of a program
pub kinds_there : (P : Program) (w : Scene) → IsWorldOf P w → length w.kinds ≡ length P
kinds_there P w of =
    ap (λ (kinds : List (List Kind)). length kinds) of.counts ∙ length_kinds P (history_of w.state)
    ∙ length_cut w.state.lines w.state.places ∙ of.state.lines

pub can_keep : (w : Scene) (p k : ℕ) (event : EventValue) → CanMake w p k event → p < length w.kinds
can_keep w p k event can = let there = can.2.here in omega (arith, kinds_there can.0 w can.1)

-- a process has as many events as its place says
pub events_counted : (P : Program) (w : Scene) (p : ℕ) → IsWorldOf P w → length (get_or w.kinds p []) ≡ place_at w.state p
events_counted P w p of =
    ap (λ (kinds : List (List Kind)). length (get_or kinds p [])) of.counts
    ∙ ap (λ (l : List Kind). length l) (kinds_at P (history_of w.state) p) ∙ length-map (get_or (history_of w.state) p []) (kind_at P p)
    ∙ ap (λ (l : List ℕ). length l) (line_at w.state.lines w.state.places p)
    ∙ length-take-le (place_at w.state p) (line_of w.state p) (of.state.within p)

pub can_few : (w : Scene) (p k : ℕ) (event : EventValue) → CanMake w p k event → place_at w.state p < EVENTS
    → length (get_or w.kinds p []) < EVENTS
can_few w p k event can room = omega (arith, events_counted can.0 w p can.1, room)

pub next_few : (P : Program) (w : Scene) (p k : ℕ) → IsWorldOf P w
    → slice_get (line_of w.state p) (place_at w.state p) ≡ Some k → place_at w.state p < EVENTS
next_few P w p k of next = omega (arith, slice_get_within (line_of w.state p) (place_at w.state p) k next, of.state.few p)

-- with the event that can be made, the events are those of a possible history
pub can_whole : (w : Scene) (p k : ℕ) (event : EventValue) → CanMake w p k event → IsWhole (with_kind w.kinds p (kind_done event.exchange))
can_whole w p k event can =
    let P = can.0 in
    let of = can.1 in
    let makes = can.2 in
    let H = history_of w.state in
    let there : p < length H = omega (arith, makes.here, length_cut w.state.lines w.state.places, of.state.lines) in
    let more = one_more P H p k (with_done w.standing p event) of.possible there
    (subst (λ (c : Configuration). fire P c p k ≡ Ok (with_done w.standing p event)) of.standing makes.fires) in
    subst IsWhole
    (kinds_more P H p k ∙ ap (with_kind (kinds_of P H) p) (sym (kind_event P w.standing p k event makes.is
    makes.fires)) ∙ ap (λ (kinds : List (List Kind)). with_kind kinds p (kind_done event.exchange)) (sym of.counts))
    (whole_kinds P (with_last H p k) more.0)

-- the world of a program after a new choice, and after the choice at the place
module _ (P : Program) (w : Scene) (p k : ℕ) (event : EventValue) (clocks : List (List (List ℕ))) (of : IsWorldOf P w)
    (makes : Makes P w p k event) (timed : AreClocksOf (with_kind w.kinds p (kind_done event.exchange)) clocks) where
  pub steps : place_at w.state p < EVENTS → IsWorldOf P (made w p event (after_choice w.state p k) clocks)
  steps room =
      goes_on P w p k event (after_choice w.state p k) clocks (with_done w.standing p event) of makes.fires makes.is refl
      (state_choice P w.state of.state p makes.here k makes.command room) (history_choice P w.state of.state p makes.here k) timed

  pub repeats : slice_get (line_of w.state p) (place_at w.state p) ≡ Some k → IsWorldOf P (made w p event (after_redo w.state p) clocks)
  repeats next =
      goes_on P w p k event (after_redo w.state p) clocks (with_done w.standing p event) of makes.fires makes.is refl
      (state_redo P w.state of.state p makes.here k next) (history_redo P w.state of.state p makes.here k next) timed

-- scenes with equal parts are equal
pub same_scene : (state : SystemState) (states : List LocalState) (channels : List (List (List ℤ))) (past : PastState) (w : Scene)
    → state ≡ w.state → states ≡ w.standing.states → channels ≡ w.standing.channels → past.starts ≡ w.starts → past.events ≡ w.events
    → past.kinds ≡ w.kinds → past.clocks ≡ w.clocks → scene state states channels past ≡ w
same_scene state states channels past w a b c d e f g =
    λ i. record {
      state = a i;
      standing = record { states = b i; channels = c i };
      starts = d i;
      events = e i;
      kinds = f i;
      clocks = g i;
    }

-- the clocks of a world after an event are those of its events
timed_by : (w new : Scene) (p : ℕ) (event : EventValue) (state : SystemState) → new ≡ made w p event state new.clocks
    → AreClocksOf new.kinds new.clocks → AreClocksOf (with_kind w.kinds p (kind_done event.exchange)) new.clocks
timed_by w new p event state same timed =
    subst (λ (kinds : List (List Kind)). AreClocksOf kinds new.clocks) (ap (λ (s : Scene). s.kinds) same) timed

module _ (w new : Scene) (p k : ℕ) (event : EventValue) (timed : AreClocksOf new.kinds new.clocks) where
  pub steps_to : (P : Program) → IsWorldOf P w → Makes P w p k event → place_at w.state p < EVENTS
      → new ≡ made w p event (after_choice w.state p k) new.clocks → IsWorldOf P new
  steps_to P of makes room same =
      subst (IsWorldOf P) (sym same) (steps P w p k event new.clocks of makes (timed_by w new p event _ same timed) room)

  pub repeats_to : (P : Program) → IsWorldOf P w → Makes P w p k event → slice_get (line_of w.state p) (place_at w.state p) ≡ Some k
      → new ≡ made w p event (after_redo w.state p) new.clocks → IsWorldOf P new
  repeats_to P of makes next same =
      subst (IsWorldOf P) (sym same) (repeats P w p k event new.clocks of makes (timed_by w new p event _ same timed) next)

  pub some_step : CanMake w p k event → place_at w.state p < EVENTS → new ≡ made w p event (after_choice w.state p k) new.clocks
      → IsSomeWorld new
  some_step can room same = (can.0, steps_to can.0 can.1 can.2 room same)

  pub some_repeat : CanMake w p k event → slice_get (line_of w.state p) (place_at w.state p) ≡ Some k
      → new ≡ made w p event (after_redo w.state p) new.clocks → IsSomeWorld new
  some_repeat can next same = (can.0, repeats_to can.0 can.1 can.2 next same)

-- the world stays one of the program, whether the choice was made or not
pub stays : {T E : Type 0} (r : Result T E) (P : Program) (w new : Scene) (p k : ℕ) (event : EventValue) → IsWorldOf P w
    → Makes P w p k event → place_at w.state p < EVENTS → OnOk r (new ≡ made w p event (after_choice w.state p k) new.clocks)
    → OnOk r (AreClocksOf new.kinds new.clocks) → OnErr r (new ≡ w) → IsWorldOf P new
stays (Ok x) P w new p k event of makes room done timed kept = steps_to w new p k event timed P of makes room done
stays (Err e) P w new p k event of makes room done timed kept = subst (IsWorldOf P) (sym kept) of

-- Undoing.

-- the removed event is the last
pub popped : (own rest : List EventValue) (o : Option EventValue) (event : EventValue) → own ≡ rest ++ option_to_list o → o ≡ Some event
    → slice_get own (length own - 1) ≡ Some event
popped own rest o event parts is =
    let whole : own ≡ rest ++ event ∷ [] = parts ∙ ap (λ (x : Option EventValue). rest ++ option_to_list x) is in
    ap (λ (l : List EventValue). slice_get l (length l - 1)) whole ∙ get_last rest event

pub undo_here : (P : Program) (w : Scene) (p : ℕ) (event : EventValue) → IsWorldOf P w → last_event w p ≡ Some event
    → p < length w.standing.states
undo_here P w p event of was = let made = last_made P w p event of was in omega (arith, made.here, states_there P w of)

-- no other event depends on the last one
pub can_pop : (w : Scene) (grid : GridState) (p : ℕ) → CanTakeBack w grid p → IsWhole (without_kind w.kinds p)
can_pop w grid p can =
    let P = can.world.0 in
    let of = can.world.1 in
    subst IsWhole
    (kinds_less P (history_of w.state) p ∙ ap (λ (kinds : List (List Kind)). without_kind kinds p) (sym of.counts))
    (whole_kinds P (without_last (history_of w.state) p) (can.may P of).0.rest)

-- with room for the message that returns
pub can_take : (w : Scene) (grid : GridState) (p : ℕ) (exchange : Exchange) → IsSomeWorld w → UndoableBy w p exchange
    → HasRoomBefore grid p exchange → CanTakeBack w grid p
can_take w grid p exchange some by room = record {
  world = some;
  event = by.event;
  was = by.was;
  may = by.may;
  messages = subst (HasRoomBefore grid p) (sym by.exchanged) room;
}

module _ (w : Scene) (p : ℕ) (event : EventValue) where
  pub same_event : {exchange : Exchange} (by : UndoableBy w p exchange) → last_event w p ≡ Some event → by.event ≡ event
  same_event by was = let first = by.was in cc

  pub undo_left : {exchange : Exchange} (by : UndoableBy w p exchange) → last_event w p ≡ Some event
      → (P : Program) → IsWorldOf P w → IsWorldOf P (unmade w p event)
  undo_left by was P of = subst (λ (e : EventValue). IsWorldOf P (unmade w p e)) (same_event by was) (by.may P of).1

  pub may_take : {exchange : Exchange} (by : UndoableBy w p exchange) → last_event w p ≡ Some event
      → (P : Program) → IsWorldOf P w → MayUndo P (history_of w.state) p × IsWorldOf P (unmade w p event)
  may_take by was P of = ((by.may P of).0, undo_left by was P of)

-- The clocks of a world, and the cut of a rollback.

-- as many lists of kinds as places
pub kinds_placed : (w : Scene) → IsSomeWorld w → length w.kinds ≡ length w.state.places
kinds_placed w some = kinds_there some.0 w some.1 ∙ sym some.1.state.places

pub is_kept : (w : Scene) (p : ℕ) → IsSomeWorld w → p < length w.state.places → p < length w.kinds
is_kept w p some here = omega (arith, here, kinds_placed w some)

pub has_event : (w : Scene) (p n : ℕ) → IsSomeWorld w → n ≤ place_at w.state p → n ≤ length (get_or w.kinds p [])
has_event w p n some within = omega (arith, within, events_counted some.0 w p some.1)

-- the row of a process is its clock
pub row_is_clock : (P : Program) (w : Scene) (p n : ℕ) → IsWorldOf P w → p < length w.state.places → n ≤ place_at w.state p
    → IsClock P (history_of w.state) p n (row_at w.clocks p n)
row_is_clock P w p n of here within =
    clock_kinds P (history_of w.state) p n (row_at w.clocks p n)
    (subst (λ (kinds : List (List Kind)). IsClockOf kinds p n (row_at w.clocks p n)) of.counts
    (of.clocks.rows p n (is_kept w p (P, of) here) (has_event w p n (P, of) within)))

-- two clocks of the same event have the same components
pub same_part : (P : Program) (H : History) (p n q : ℕ) (one other : List ℕ) → IsClock P H p n one → IsClock P H p n other
    → get_or one q 0 ≡ get_or other q 0
same_part P H p n q one other a b =
    let below = a.least other b.consistent b.reaches q in
    let above = b.least one a.consistent a.reaches q in
    omega (arith, below, above)

-- the places are the numbers of events
lengths : (P : Program) (M : SystemState) → IsStateOf P M → map (λ (l : List ℕ). length l) (history_of M) ≡ M.places
lengths P M is =
    let size : length (history_of M) ≡ length M.places = length_cut M.lines M.places ∙ is.lines ∙ sym is.places in
    ext_get_or 0 (map (λ (l : List ℕ). length l) (history_of M)) M.places
    (length-map (history_of M) (λ (l : List ℕ). length l) ∙ size)
    (λ q within. let inside : q < length (history_of M) = omega (arith, within, length-map (history_of M) (λ (l : List ℕ). length l)) in
    get_or-map (λ (l : List ℕ). length l) (history_of M) q [] 0 inside ∙ ap (λ (l : List ℕ). length l) (line_at M.lines M.places q)
    ∙ length-take-le (place_at M q) (line_of M q) (is.within q))

pub same_size : (w : Scene) (places : List ℕ) (p n : ℕ) → IsSomeWorld w → places ≡ w.state.places
    → length (set places p n) ≡ length w.kinds
same_size w places p n some same =
    length-set places p n ∙ ap (λ (l : List ℕ). length l) same ∙ sym (kinds_placed w some)

-- the greatest cut below the places with the place of p lowered
pub is_rollback : (P : Program) (w : Scene) (p n : ℕ) (places top cut : List ℕ) (kinds : List (List Kind)) → IsWorldOf P w
    → places ≡ w.state.places → kinds ≡ w.kinds → top ≡ set places p n → p < length w.state.places → n ≤ place_at w.state p
    → IsConsistentCut kinds cut → IsAtMost cut top → ((c : List ℕ) → IsConsistentCut kinds c → IsAtMost c top → IsAtMost c cut)
    → IsRollback P (history_of w.state) p n cut
is_rollback P w p n places top cut kinds of same same_kinds top_is here within consistent below greatest =
    let H = history_of w.state in
    let there : p < length H = omega (arith, here, length_cut w.state.lines w.state.places, of.state.lines, of.state.places) in
    let events : length (get_or H p []) ≡ place_at w.state p =
    ap (λ (l : List ℕ). length l) (line_at w.state.lines w.state.places p)
    ∙ length-take-le (place_at w.state p) (line_of w.state p) (of.state.within p) in
    let are : kinds ≡ kinds_of P H = same_kinds ∙ of.counts in
    rolled_back P H p n cut top (subst (λ (k : List (List Kind)). IsConsistentCut k cut) are consistent) below
    (λ c is most. greatest c (subst (λ (k : List (List Kind)). IsConsistentCut k c) (sym are) is) most)
    (top_is ∙ ap (λ (l : List ℕ). set l p n) (same ∙ sym (lengths P w.state of.state))) there (omega (arith, within, events))
