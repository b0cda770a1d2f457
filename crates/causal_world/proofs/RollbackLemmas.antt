-- Events are undone one after the other, until the places are those of a cut. After each undo the cut is consistent, and each channel has
-- room for the messages that return to it. If no process with events beyond the cut may undo, no process has such events.
use Rattle.std.proofs.Common.{◌≡◌, ◌≢◌, ℕ, suc, ◌+◌, ◌<◌, ◌≤◌, ◌⊎◌, inr, ◌==◌, ◌&&◌, cond, ℤ, List, [], ◌∷◌, ◌++◌, length, get_or, take}
use Rattle.std.proofs.Common.{count_by, sum, Some, Ok, Err, refl, sym, ap, ◌∙◌, subst, ⊎_elim, arith}
use Rattle.std.specs.Prelude.{if◌then◌else◌}
use Rattle.std.proofs.lemmas.Bool.{cases_eq, eq-eqb, ne_eqb}
use Rattle.std.proofs.lemmas.List.{length-map, length-set, length-take-le, get_or-set_other, ext_get_or}
use Rattle.dbg_base.specs.declared.refusal.Refusal.{Refusal}
use Rattle.dbg_base.specs.declared.refusal.Refusal.TheVariants.{NothingToUndo, Consequence}
use Rattle.dbg_base.specs.Choices.{CannotUndo}
use Rattle.dbg_base.specs.Trees.{Program}
use Rattle.dbg_base.specs.Configurations.{Configuration}
use Rattle.dbg_base.specs.SystemStates.{history_of, place_at, line_of, after_rollback}
use Rattle.dbg_base.specs.Reversal.{MayUndo, without_back}
use Rattle.cut_core.specs.declared.kind.Kind.{Kind}
use Rattle.cut_core.specs.Kinds.{gets_from}
use Rattle.cut_core.specs.Tallies.{got_by}
use Rattle.cut_core.specs.ConsistentCuts.{IsConsistentCut, places}
use Rattle.event_rows.specs.declared.exchange.Exchange.{Exchange}
use Rattle.event_rows.specs.declared.exchange.Exchange.TheVariants.{Nothing, Sent, Took}
use Rattle.event_rows.specs.EventValues.{EventValue}
use Rattle.fifo_grid.specs.Grids.{GridState, room_at}
use Rattle.dbg_laws.proofs.ChannelSizeLemmas.{IsSquare, square_play}
use Rattle.dbg_laws.proofs.ConsistentCutLemmas.{line_at}
use Rattle.causal_world.specs.declared.rolled.Taken.{Taken}
use Rattle.causal_world.specs.Pasts.{without_kind}
use Rattle.causal_world.specs.Scenes.{Scene, IsWorldOf, unmade}
use Rattle.causal_world.specs.Room.{HasRoomBefore, HasRoomBack, puts_before}
use Rattle.causal_world.specs.Worlds.{IsSomeWorld, LastExchange, last_event}
use Rattle.causal_world.specs.Rollings.{unmade_all, AreTakenBack, IsRolledFrom, CanTakeBack, IsNextBack}
use Rattle.causal_world.proofs.LastKindLemmas.{one_of_both, none_of_one, LastKind, last_kind, placed, sum_strict, sum_without}
use Rattle.causal_world.proofs.ClockLemmas.{got_grows, got_more, one_shorter, continues_less, cut_less, same_got}
use Rattle.causal_world.proofs.LastEventLemmas.{undoable_by}
use Rattle.causal_world.proofs.ClockRows.{has_events}
use Rattle.causal_world.proofs.HistoryRecordLemmas.{some_undo, cut_consistent}
use Rattle.causal_world.proofs.WorldCallLemmas.{kinds_there, events_counted, can_take}

-- Lists of undone events.

pub unmade_more : (w : Scene) (taken : List Taken) (t : Taken)
    → unmade_all w (taken ++ t ∷ []) ≡ unmade (unmade_all w taken) t.pid.0 t.event
unmade_more w [] t = refl
unmade_more w (x ∷ taken) t = unmade_more (unmade w x.pid.0 x.event) taken t

taken_more : (P : Program) (w : Scene) (taken : List Taken) (t : Taken) → AreTakenBack P w taken
    → last_event (unmade_all w taken) t.pid.0 ≡ Some t.event → IsWorldOf P (unmade (unmade_all w taken) t.pid.0 t.event)
    → AreTakenBack P w (taken ++ t ∷ [])
taken_more P w [] t took was of = (was, of, tt)
taken_more P w (x ∷ taken) t took was of = (took.0, took.1, taken_more P (unmade w x.pid.0 x.event) taken t took.2 was of)

left_of : (P : Program) (w : Scene) (taken : List Taken) → IsWorldOf P w → AreTakenBack P w taken → IsWorldOf P (unmade_all w taken)
left_of P w [] of took = of
left_of P w (x ∷ taken) of took = left_of P (unmade w x.pid.0 x.event) taken took.1 took.2

pub rolled_of : (P : Program) (before w : Scene) (taken : List Taken) → IsRolledFrom P before taken w → IsWorldOf P w
rolled_of P before w taken r = subst (IsWorldOf P) (sym r.is) (left_of P before taken r.of r.took)

pub rolled_none : (P : Program) (w : Scene) → IsWorldOf P w → IsRolledFrom P w [] w
rolled_none P w of = record { of = of; took = tt; is = refl }

pub rolled_more : (P : Program) (before w : Scene) (taken : List Taken) (t : Taken) → IsRolledFrom P before taken w
    → last_event w t.pid.0 ≡ Some t.event → IsWorldOf P (unmade w t.pid.0 t.event)
    → IsRolledFrom P before (taken ++ t ∷ []) (unmade w t.pid.0 t.event)
rolled_more P before w taken t r was of = record {
  of = r.of;
  took = taken_more P before taken t r.took (subst (λ (s : Scene). last_event s t.pid.0 ≡ Some t.event) r.is was)
      (subst (λ (s : Scene). IsWorldOf P (unmade s t.pid.0 t.event)) r.is of);
  is = ap (λ (s : Scene). unmade s t.pid.0 t.event) r.is ∙ sym (unmade_more before taken t);
}

-- Room for the messages that return.

-- the exchange returns messages only to its own process
puts_other : (p i j : ℕ) (exchange : Exchange) → j ≢ p → puts_before p exchange i j ≡ 0
puts_other p i j Nothing apart = refl
puts_other p i j (Sent target value count) apart = refl
puts_other p i j (Took source message count) apart = none_of_one (source.0 == i) (p == j) (inr (ne_eqb p j (λ x. apart (sym x))))

puts_one : (s p : ℕ) → ◌≡◌ {A = ℕ} (if (s == s) && (p == p) then 1 else 0) 1
puts_one s p = one_of_both (s == s) (p == p) (eq-eqb s s refl) (eq-eqb p p refl)

module _ (w : Scene) (p : ℕ) (event : EventValue) (cut : List ℕ) (last : LastKind w p event) (consistent : IsConsistentCut w.kinds cut)
    (beyond : get_or cut p 0 < length (get_or w.kinds p [])) where
  abbrev pub less : List (List Kind)
  less = without_kind w.kinds p

  -- the cut is within the remaining events
  within_left : (q : ℕ) → get_or cut q 0 ≤ length (get_or less q [])
  within_left q =
      ⊎_elim
      (λ (same : q ≡ p). subst (λ (x : ℕ). get_or cut x 0 ≤ length (get_or less x [])) (sym same)
      (omega (arith, beyond, one_shorter w.kinds p last.here)))
      (λ (apart : q ≢ p).
      let within = consistent.within q in
      let line : length (get_or less q []) ≡ length (get_or w.kinds q []) =
      ap (λ (l : List Kind). length l) (get_or-set_other w.kinds p q (without_back (get_or w.kinds p [])) [] apart) in
      omega (arith, within, line))
      (cases_eq q p)

  pub still_cut : IsConsistentCut less cut
  still_cut = cut_less less w.kinds (continues_less w.kinds p last.here) cut consistent within_left

  -- what process p received from process i, including its last event
  got_all : (i : ℕ) → got_by w.kinds p i (length (get_or w.kinds p []))
      ≡ got_by less p i (length (get_or less p [])) + cond (gets_from i last.kind) 1 0
  got_all i =
      let n = length (get_or less p []) in
      let size : length (get_or w.kinds p []) ≡ suc n =
      (let some = last.some in omega (arith, some, one_shorter w.kinds p last.here)) in
      ap (λ (m : ℕ). got_by w.kinds p i m) size ∙ ap (λ (kinds : List (List Kind)). got_by kinds p i (suc n)) last.is
      ∙ got_more less p last.kind (let here = last.here in omega (arith, here, length-set w.kinds p (without_back (get_or w.kinds p [])))) i

  at_cut : (i j : ℕ) → got_by less j i (get_or cut j 0) ≡ got_by w.kinds j i (get_or cut j 0)
  at_cut i j = sym (same_got less w.kinds (continues_less w.kinds p last.here) j i (get_or cut j 0) (within_left j))

  pub still_room : (old new : List (List ℕ)) → HasRoomBack old w.kinds cut
      → ((i j : ℕ) → room_at old i j ≤ room_at new i j + puts_before p event.exchange i j) → HasRoomBack new less cut
  still_room old new room changes i j i_there j_there =
      let size = length-set w.kinds p (without_back (get_or w.kinds p [])) in
      let all = room i j (omega (arith, i_there, size)) (omega (arith, j_there, size)) in
      let change = changes i j in
      ⊎_elim
      (λ (same : j ≡ p).
      let takes = last.takes i in
      subst (λ (x : ℕ). got_by less x i (length (get_or less x [])) ≤ got_by less x i (get_or cut x 0) + room_at new i x) (sym same)
      (own i new (subst (λ (x : ℕ). got_by w.kinds x i (length (get_or w.kinds x [])) ≤ got_by w.kinds x i (get_or cut x 0)
      + room_at old i x) same all) (subst (λ (x : ℕ). room_at old i x ≤ room_at new i x + puts_before p event.exchange i x) same change)
      takes))
      (λ (apart : j ≢ p).
      let line : get_or less j [] ≡ get_or w.kinds j [] = get_or-set_other w.kinds p j (without_back (get_or w.kinds p [])) [] apart in
      let got : got_by less j i (length (get_or less j [])) ≡ got_by w.kinds j i (length (get_or w.kinds j [])) =
      ap (λ (l : List Kind). count_by (gets_from i) (take (length l) l)) line in
      omega (arith, all, change, got, at_cut i j, puts_other p i j event.exchange apart))
      (cases_eq j p)
    where
      own : (i : ℕ) (new : List (List ℕ)) {old : ℕ}
          → got_by w.kinds p i (length (get_or w.kinds p [])) ≤ got_by w.kinds p i (get_or cut p 0) + old
          → old ≤ room_at new i p + puts_before p event.exchange i p
          → puts_before p event.exchange i p ≤ cond (gets_from i last.kind) 1 0
          → got_by less p i (length (get_or less p [])) ≤ got_by less p i (get_or cut p 0) + room_at new i p
      own i new all change takes = omega (arith, all, change, takes, got_all i, at_cut i p)

  -- there is room for the message that returns with the last event
  pub room_before : (grid : GridState) → length grid.channels ≡ length w.kinds → HasRoomBack grid.room w.kinds cut
      → HasRoomBefore grid p event.exchange
  room_before grid size room = by event.exchange refl
    where
      by : (exchange : Exchange) → event.exchange ≡ exchange → HasRoomBefore grid p exchange
      by Nothing e = tt
      by (Sent target value count) e = tt
      by (Took source message count) e = λ here there.
          let all = room source.0 p (omega (arith, here, size)) last.here in
          let takes = last.takes source.0 in
          let one : puts_before p event.exchange source.0 p ≡ 1 =
          ap (λ (x : Exchange). puts_before p x source.0 p) e ∙ puts_one source.0 p in
          let few = got_grows less p source.0 (get_or cut p 0) (length (get_or less p [])) (within_left p) in
          omega (arith, all, takes, one, few, got_all source.0, at_cut source.0 p)

-- What holds while the events beyond the cut are undone.
pub record Reverses (before w : Scene) (room : List (List ℕ)) (cut : List ℕ) (taken : List Taken) : Type 0 where
  pub back : (P : Program) → IsWorldOf P before → IsRolledFrom P before taken w
  pub consistent : IsConsistentCut w.kinds cut
  pub ways : HasRoomBack room w.kinds cut

-- the last event of a process with events beyond the cut is undone
pub reverses_on : (before w new : Scene) (old room : List (List ℕ)) (cut : List ℕ) (taken : List Taken) (t : Taken) → IsSomeWorld before
    → Reverses before w old cut taken → get_or cut t.pid.0 0 < length (get_or w.kinds t.pid.0 [])
    → last_event w t.pid.0 ≡ Some t.event → ((P : Program) → IsWorldOf P w → IsWorldOf P (unmade w t.pid.0 t.event))
    → new ≡ unmade w t.pid.0 t.event
    → ((i j : ℕ) → room_at old i j ≤ room_at room i j + puts_before t.pid.0 t.event.exchange i j)
    → Reverses before new room cut (taken ++ t ∷ [])
reverses_on before w new old room cut taken t some r beyond was may same changes =
    let p = t.pid.0 in
    let of = rolled_of some.0 before w taken (r.back some.0 some.1) in
    let last = last_kind some.0 w p t.event of was in
    let kinds : new.kinds ≡ without_kind w.kinds p = ap (λ (s : Scene). s.kinds) same in
    record {
      back = λ P is.
          let from = r.back P is in
          subst (IsRolledFrom P before (taken ++ t ∷ [])) (sym same)
          (rolled_more P before w taken t from was (may P (rolled_of P before w taken from)));
      consistent = subst (λ (k : List (List Kind)). IsConsistentCut k cut) (sym kinds) (still_cut w p t.event cut last r.consistent beyond);
      ways = subst (λ (k : List (List Kind)). HasRoomBack room k cut) (sym kinds)
          (still_room w p t.event cut last r.consistent beyond old room r.ways changes);
    }

-- one event less
pub fewer : (w : Scene) (p : ℕ) (event : EventValue) → IsSomeWorld w → last_event w p ≡ Some event
    → suc (sum (places (without_kind w.kinds p))) ≡ sum (places w.kinds)
fewer w p event some was = let last = last_kind some.0 w p event some.1 was in sum_without w.kinds p last.here last.some

-- if a process has events beyond the cut, the sum of the places is greater than that of the cut
pub more_left : (kinds : List (List Kind)) (cut : List ℕ) (p : ℕ) → IsConsistentCut kinds cut
    → get_or cut p 0 < length (get_or kinds p []) → sum cut < sum (places kinds)
more_left kinds cut p consistent beyond =
    sum_strict cut (places kinds) p (consistent.sizes ∙ sym (length-map kinds (λ (l : List Kind). length l)))
    (λ q. let within = consistent.within q in omega (arith, within, placed kinds q))
    (omega (arith, beyond, placed kinds p))

-- the lines stay
lines_kept : (w : Scene) (taken : List Taken) → (unmade_all w taken).state.lines ≡ w.state.lines
lines_kept w [] = refl
lines_kept w (t ∷ taken) = lines_kept (unmade w t.pid.0 t.event) taken

-- if no process has events beyond the cut, the places are those of the cut
pub at_rest : (before w : Scene) (room : List (List ℕ)) (cut : List ℕ) (taken : List Taken) → IsSomeWorld before
    → Reverses before w room cut taken → ((p : ℕ) → length (get_or w.kinds p []) ≤ get_or cut p 0)
    → w.state ≡ after_rollback before.state cut
at_rest before w room cut taken some r none =
    let from = r.back some.0 some.1 in
    let of = rolled_of some.0 before w taken from in
    let lines : w.state.lines ≡ before.state.lines = ap (λ (s : Scene). s.state.lines) from.is ∙ lines_kept before taken in
    let size : length w.state.places ≡ length cut =
    of.state.places ∙ sym (kinds_there some.0 w of) ∙ sym r.consistent.sizes in
    let places : w.state.places ≡ cut =
    ext_get_or 0 w.state.places cut size (λ q within.
    let above = none q in
    let below = r.consistent.within q in
    omega (arith, above, below, events_counted some.0 w q of)) in
    λ i. record { lines = lines i; places = places i }

-- The next process.

-- no process with events beyond the cut may undo its last event
abbrev pub AreStuck : Scene → List ℕ → ℕ → Type 0
AreStuck w cut n = (q : ℕ) → q < n
    → (place_at w.state q ≤ get_or cut q 0) ⊎ ((P : Program) → IsWorldOf P w → MayUndo P (history_of w.state) q → ⊥)

pub choices_counted : (P : Program) (w : Scene) (p : ℕ) → IsWorldOf P w → length (get_or (history_of w.state) p []) ≡ place_at w.state p
choices_counted P w p of =
    ap (λ (l : List ℕ). length l) (line_at w.state.lines w.state.places p)
    ∙ length-take-le (place_at w.state p) (line_of w.state p) (of.state.within p)

pub none_after : (w : Scene) (cut : List ℕ) → IsSomeWorld w → IsConsistentCut w.kinds cut → AreStuck w cut (length w.kinds)
    → (p : ℕ) → length (get_or w.kinds p []) ≤ get_or cut p 0
none_after w cut some consistent stuck =
    let P = some.0 in
    let of = some.1 in
    let H = history_of w.state in
    ⊎_elim
    (λ (rest : (p : ℕ) → length (get_or H p []) ≤ get_or cut p 0). λ p. (let below = rest p in omega (
      arith,
      below,
      events_counted P w p of,
      choices_counted P w p of,
    )))
    (λ (found : (p : ℕ) × (get_or cut p 0 < length (get_or H p [])) × MayUndo P H p).
    let size : length (get_or w.kinds found.0 []) ≡ length (get_or H found.0 []) =
    events_counted P w found.0 of ∙ sym (choices_counted P w found.0 of) in
    ⊎_elim
    (λ (below : place_at w.state found.0 ≤ get_or cut found.0 0).
    absurd (let beyond = found.1 in omega (arith, below, beyond, choices_counted P w found.0 of)))
    (λ (never : (P : Program) → IsWorldOf P w → MayUndo P (history_of w.state) found.0 → ⊥). absurd (never P of found.2))
    (stuck found.0 (has_events w.kinds found.0 (let beyond = found.1 in omega (arith, beyond, size)))))
    (some_undo P H cut of.possible (cut_consistent P H cut (subst (λ (k : List (List Kind)). IsConsistentCut k cut) of.counts consistent)))

-- by the exchange of its last event
pub next_by : (w : Scene) (cut : List ℕ) (p : ℕ) (exchange : Exchange) → LastExchange w.events w.standing.channels p (Ok exchange)
    → get_or cut p 0 < place_at w.state p → IsSomeWorld w → IsNextBack w cut p
next_by w cut p exchange last beyond some =
    (omega (arith, beyond, events_counted some.0 w p some.1), (exchange, undoable_by w p (Ok exchange) last))

pub stuck_by : (w : Scene) (p : ℕ) (refusal : Refusal) → LastExchange w.events w.standing.channels p (Err refusal)
    → (P : Program) → IsWorldOf P w → MayUndo P (history_of w.state) p → ⊥
stuck_by w p refusal last P of may = cannot refusal (undoable_by w p (Err refusal) last P of)
  where
    cannot : (refusal : Refusal) → CannotUndo P w.state p refusal → ⊥
    cannot NothingToUndo why = let events = may.some in omega (arith, events, why, choices_counted P w p of)
    cannot (Consequence q) why = why.impossible may.rest
    cannot refusal why = absurd why

-- What the loop requires.

pub some_left : (before w : Scene) (room : List (List ℕ)) (cut : List ℕ) (taken : List Taken) → IsSomeWorld before
    → Reverses before w room cut taken → IsSomeWorld w
some_left before w room cut taken some r = (some.0, rolled_of some.0 before w taken (r.back some.0 some.1))

-- a channel for each pair of processes
pub channels_there : (w : Scene) → IsSomeWorld w → IsSquare (length w.kinds) w.standing.channels
channels_there w some =
    subst (λ (n : ℕ). IsSquare n w.standing.channels) (sym (kinds_there some.0 w some.1))
    (subst (λ (c : Configuration). IsSquare (length some.0) c.channels) (sym some.1.standing)
    (square_play some.0 (history_of w.state) some.1.possible))

pub can_back : (w : Scene) (grid : GridState) (cut : List ℕ) (p : ℕ) → IsSomeWorld w → w.standing.channels ≡ grid.channels
    → IsConsistentCut w.kinds cut → HasRoomBack grid.room w.kinds cut → IsNextBack w cut p → CanTakeBack w grid p
can_back w grid cut p some same consistent room next =
    let by = next.1.1 in
    let last = last_kind some.0 w p by.event some.1 by.was in
    can_take w grid p next.1.0 some by
    (subst (HasRoomBefore grid p) by.exchanged
    (room_before w p by.event cut last consistent next.0 grid
    (ap (λ (l : List (List (List ℤ))). length l) (sym same) ∙ (channels_there w some).rows) room))

-- room that is made pair by pair
pub ways_back : (w : Scene) (room : List (List ℕ)) (cut : List ℕ) (kinds : List (List Kind)) → IsSomeWorld w → kinds ≡ w.kinds
    → ((i j : ℕ) → i < length kinds → j < length kinds → i < length w.standing.channels → j < length (get_or w.standing.channels i [])
    → got_by kinds j i (length (get_or kinds j [])) ≤ got_by kinds j i (get_or cut j 0) + room_at room i j)
    → HasRoomBack room w.kinds cut
ways_back w room cut kinds some same found i j i_there j_there =
    let square = channels_there w some in
    let columns = square.columns i i_there in
    let size : length kinds ≡ length w.kinds = ap (λ (k : List (List Kind)). length k) same in
    subst (λ (k : List (List Kind)). got_by k j i (length (get_or k j [])) ≤ got_by k j i (get_or cut j 0) + room_at room i j) same
    (found i j (omega (arith, i_there, size)) (omega (arith, j_there, size)) (omega (arith, i_there, square.rows))
    (omega (arith, j_there, columns)))
