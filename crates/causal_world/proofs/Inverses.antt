-- Undoing a step or a redo leads to the world before it. Undone events are made again, the last undone first, which leads to the world that
-- had them.
use Rattle.std.proofs.Common.{◌≡◌, ℕ, ◌+◌, ◌-◌, ◌<◌, ◌≤◌, ◌⊎◌, List, [], ◌∷◌, ◌++◌, length, get_or, set, take, drop, Some, sym, ap, ◌∙◌}
use Rattle.std.proofs.Common.{subst, ⊎_elim, arith, take-append-drop, ◌≢◌, zero, suc, inl, inr, ℤ, ◌==◌, Bool, cond, count_by, refl}
use Rattle.std.specs.Prelude.{slice_get}
use Rattle.std.proofs.lemmas.List.{set-set, set-get_or, get_or-set_same, length-take-le, length_push, take_at}
use Rattle.std.proofs.lemmas.Bool.{cases_eq, cases_lt, eq-eqb, ne_eqb}
use Rattle.std.proofs.lemmas.List.Sums.{sum_by-cons, sum_by_push}
use Rattle.dbg_base.specs.declared.refusal.Refusal.{Refusal}
use Rattle.dbg_base.specs.declared.refusal.Refusal.TheVariants.{NothingToUndo, Consequence, Memory}
use Rattle.dbg_base.specs.Choices.{CannotUndo}
use Rattle.dbg_base.specs.Trees.{Program}
use Rattle.dbg_base.specs.Histories.{History, IsPossible, play}
use Rattle.dbg_base.specs.Orders.{with_last}
use Rattle.dbg_base.specs.SystemStates.{SystemState, line_of, place_at, history_of, redo_line, after_choice, after_redo, after_undo}
use Rattle.dbg_base.specs.SystemStates.{IsStateOf}
use Rattle.dbg_base.specs.Reversal.{MayUndo, without_last}
use Rattle.event_rows.specs.EventValues.{EventValue}
use Rattle.event_rows.specs.declared.exchange.Exchange.{Exchange}
use Rattle.event_rows.specs.declared.exchange.Exchange.TheVariants.{Nothing, Sent, Took}
use Rattle.fifo_grid.specs.Grids.{GridState, room_at}
use Rattle.dbg_laws.proofs.Lists.{push_same}
use Rattle.dbg_laws.proofs.UndoLemmas.{without_with}
use Rattle.dbg_laws.proofs.LineStates.{history_choice, history_redo, length_cut}
use Rattle.causal_world.specs.Pasts.{kinds_of, PastState, HasRoomFor, kind_done, with_kind, AreClocksOf}
use Rattle.causal_world.specs.Scenes.{Scene, IsWorldOf, unmade, restored, made}
use Rattle.causal_world.specs.Worlds.{last_event, IsSomeWorld, Makes}
use Rattle.causal_world.specs.Rollings.{IsStepped, IsRedone, TakesOut, unmade_all, AreTakenBack, IsRolledFrom}
use Rattle.causal_world.specs.declared.rolled.Taken.{Taken}
use Rattle.causal_world.specs.Room.{HasRoomsAfter, puts_after, puts_of, is_of, HasRoomForth, HasRoomForEach}
use Rattle.causal_world.proofs.WorldOfLemmas.{history_without}
use Rattle.causal_world.proofs.RollbackLemmas.{choices_counted, unmade_more, channels_there}
use Rattle.causal_world.proofs.SameWorldLemmas.{same_world, remade}
use Rattle.causal_world.proofs.LastKindLemmas.{one_at_most, one_of_both, none_of_one}

-- The last choice may be undone if the history without it is possible.
may_last : (P : Program) (H B : History) (p k : ℕ) → H ≡ with_last B p k → p < length B → IsPossible P B → MayUndo P H p
may_last P H B p k same here possible = record {
  some = omega (
    arith,
    ap (λ (X : History). length (get_or X p [])) same ∙ ap (λ (l : List ℕ). length l) (push_same B p k here),
    length_push (get_or B p []) k,
  );
  rest = subst (IsPossible P) (sym (ap (λ (X : History). without_last X p) same ∙ without_with B p k here)) possible;
}

there : (P : Program) (M : SystemState) (p : ℕ) → IsStateOf P M → p < length P → p < length (history_of M)
there P M p is here = omega (arith, here, length_cut M.lines M.places, is.lines)

module _ (P : Program) (p : ℕ) (cutoff : List ℕ) (w : Scene) (s : IsStepped P p cutoff w) where
  step_history : history_of w.state ≡ with_last (history_of s.before.state) p s.choice
  step_history = ap history_of s.state ∙ history_choice P s.before.state s.of.state p s.here s.choice

  pub step_may : MayUndo P (history_of w.state) p
  step_may =
      may_last P (history_of w.state) (history_of s.before.state) p s.choice step_history (there P s.before.state p s.of.state s.here)
      s.of.possible

module _ (P : Program) (p : ℕ) (w : Scene) (r : IsRedone P p w) where
  redo_history : history_of w.state ≡ with_last (history_of r.before.state) p r.choice
  redo_history = ap history_of r.state ∙ history_redo P r.before.state r.of.state p r.here r.choice r.next

  pub redo_may : MayUndo P (history_of w.state) p
  redo_may =
      may_last P (history_of w.state) (history_of r.before.state) p r.choice redo_history (there P r.before.state p r.of.state r.here)
      r.of.possible

-- so only a failed allocation can refuse it
pub not_refused : (P : Program) (w : Scene) (p : ℕ) (refusal : Refusal) → IsWorldOf P w → MayUndo P (history_of w.state) p
    → CannotUndo P w.state p refusal → refusal ≡ Memory
not_refused P w p NothingToUndo of may why = let events = may.some in absurd (omega (arith, events, why, choices_counted P w p of))
not_refused P w p (Consequence q) of may why = absurd (why.impossible may.rest)
not_refused P w p refusal of may why = absurd why

pub memory_alone : (P : Program) (w : Scene) (p : ℕ) (refusal : Refusal) → IsWorldOf P w → MayUndo P (history_of w.state) p
    → ((Q : Program) → IsWorldOf Q w → CannotUndo Q w.state p refusal) ⊎ (refusal ≡ Memory) → refusal ≡ Memory
memory_alone P w p refusal of may why =
    ⊎_elim (λ (cannot : (Q : Program) → IsWorldOf Q w → CannotUndo Q w.state p refusal). not_refused P w p refusal of may (cannot P of))
    (λ (memory : refusal ≡ Memory). memory) why

-- The places move back.

pub place_back : (M : SystemState) (p : ℕ) → p < length M.places → after_undo (after_redo M p) p ≡ M
place_back M p here =
    let n = place_at M p in
    let higher : get_or (set M.places p (n + 1)) p 0 ≡ n + 1 = get_or-set_same M.places p (n + 1) 0 here in
    let back : get_or (set M.places p (n + 1)) p 0 - 1 ≡ n = omega (arith, higher) in
    let places : set (set M.places p (n + 1)) p (get_or (set M.places p (n + 1)) p 0 - 1) ≡ M.places =
    set-set M.places p (n + 1) (get_or (set M.places p (n + 1)) p 0 - 1) ∙ ap (set M.places p) back ∙ set-get_or M.places p 0 in
    λ i. record { lines = M.lines; places = places i }

pub redo_back : (P : Program) (p : ℕ) (w new : Scene) (event : EventValue) (r : IsRedone P p w) → TakesOut w p event new → new ≡ r.before
redo_back P p w new event r took =
    same_world P new r.before (subst (IsWorldOf P) (sym took.left) (took.may P r.now).1) r.of
    (ap (λ (s : Scene). s.state) took.left ∙ ap (λ (M : SystemState). after_undo M p) r.state
    ∙ place_back r.before.state p (let here = r.here in omega (arith, here, r.of.state.places)))

-- a line that is cut at its place, gets a choice, is cut there again, and gets what was cut off is as before
line_back : (n k : ℕ) (line : List ℕ) → n ≤ length line → take n (take n line ++ k ∷ []) ++ drop n line ≡ line
line_back n k line within =
    ap (λ (l : List ℕ). l ++ drop n line) (take_at (take n line) (k ∷ []) n (length-take-le n line within))
    ∙ take-append-drop n line

pub restored_back : (M : SystemState) (p k : ℕ) → p < length M.lines → p < length M.places → place_at M p ≤ length (line_of M p)
    → restored (after_choice M p k) p (redo_line M p) ≡ M
restored_back M p k has_line has_place within =
    let n = place_at M p in
    let line = line_of M p in
    let longer = take n line ++ k ∷ [] in
    let own : get_or (set M.lines p longer) p [] ≡ longer = get_or-set_same M.lines p longer [] has_line in
    let higher : get_or (set M.places p (n + 1)) p 0 ≡ n + 1 = get_or-set_same M.places p (n + 1) 0 has_place in
    let back : get_or (set M.places p (n + 1)) p 0 - 1 ≡ n = omega (arith, higher) in
    let places : set (set M.places p (n + 1)) p (get_or (set M.places p (n + 1)) p 0 - 1) ≡ M.places =
    set-set M.places p (n + 1) (get_or (set M.places p (n + 1)) p 0 - 1) ∙ ap (set M.places p) back ∙ set-get_or M.places p 0 in
    let lines : set (set M.lines p longer) p (take (get_or (set M.places p (n + 1)) p 0 - 1) (get_or (set M.lines p longer) p [])
    ++ drop n line) ≡ M.lines =
    set-set M.lines p longer (take (get_or (set M.places p (n + 1)) p 0 - 1) (get_or (set M.lines p longer) p []) ++ drop n line)
    ∙ ap (λ (m : ℕ). set M.lines p (take m (get_or (set M.lines p longer) p []) ++ drop n line)) back
    ∙ ap (λ (l : List ℕ). set M.lines p (take n l ++ drop n line)) own
    ∙ ap (set M.lines p) (line_back n k line within) ∙ set-get_or M.lines p [] in
    λ i. record { lines = lines i; places = places i }

-- another state with the same history
restate : (P : Program) (w : Scene) (M : SystemState) → IsWorldOf P w → IsStateOf P M → history_of M ≡ history_of w.state
    → IsWorldOf P (record w { state = M })
restate P w M of is same = record {
  state = is;
  possible = subst (IsPossible P) (sym same) of.possible;
  standing = of.standing ∙ ap (play P) (sym same);
  starts = of.starts;
  fired = of.fired;
  history = of.history ∙ sym same;
  leads = of.leads;
  events = of.events;
  counts = of.counts ∙ ap (kinds_of P) (sym same);
  clocks = of.clocks;
}

pub step_back : (P : Program) (p : ℕ) (cutoff : List ℕ) (w new : Scene) (event : EventValue) (s : IsStepped P p cutoff w)
    → last_event w p ≡ Some event → IsWorldOf P (unmade w p event)
    → new ≡ record (unmade w p event) { state = restored w.state p cutoff } → new ≡ s.before
step_back P p cutoff w new event s was shorter same =
    let B = s.before.state in
    let state : restored w.state p cutoff ≡ B =
    ap (λ (M : SystemState). restored M p cutoff) s.state ∙ ap (restored (after_choice B p s.choice) p) s.cut
    ∙ restored_back B p s.choice (let here = s.here in omega (arith, here, s.of.state.lines))
    (let here = s.here in omega (arith, here, s.of.state.places)) (s.of.state.within p) in
    let history : history_of (restored w.state p cutoff) ≡ history_of (after_undo w.state p) =
    ap history_of state ∙ sym (history_without P w.state p s.now.state s.here
    ∙ ap (λ (H : History). without_last H p) (step_history P p cutoff w s)
    ∙ without_with (history_of B) p s.choice (there P B p s.of.state s.here)) in
    let of = restate P (unmade w p event) (restored w.state p cutoff) shorter (subst (IsStateOf P) (sym state) s.of.state) history in
    same_world P new s.before (subst (IsWorldOf P) (sym same) of) s.of (ap (λ (v : Scene). v.state) same ∙ state)

-- Undone events are made again.

-- How many messages the events send.

puts_push : (taken : List Taken) (t : Taken) (i j : ℕ)
    → puts_of (taken ++ t ∷ []) i j ≡ puts_of taken i j + puts_after t.pid.0 t.event.exchange i j
puts_push [] t i j = omega arith
puts_push (x ∷ taken) t i j = omega (arith, puts_push taken t i j)

-- at most one each
puts_few : (p i j : ℕ) (exchange : Exchange) → puts_after p exchange i j ≤ cond (p == i) 1 0
puts_few p i j Nothing = omega arith
puts_few p i j (Sent target value count) = one_at_most (p == i) (target.0 == j)
puts_few p i j (Took source message count) = omega arith

pub puts_counted : (taken : List Taken) (i j : ℕ) → puts_of taken i j ≤ count_by (is_of i) taken
puts_counted [] i j = omega arith
puts_counted (t ∷ taken) i j =
    omega (arith, puts_counted taken i j, puts_few t.pid.0 i j t.event.exchange, sum_by-cons (λ (x : Taken). cond (is_of i x) 1 0) t taken)

-- The last event of the list.

pub record Again (P : Program) (before w : Scene) (prefix : List Taken) (t : Taken) : Type 0 where
  pub of : IsWorldOf P w
  pub choice : ℕ
  pub makes : Makes P w t.pid.0 choice t.event
  pub next : slice_get (line_of w.state t.pid.0) (place_at w.state t.pid.0) ≡ Some choice
  pub left : IsRolledFrom P before prefix (unmade_all before prefix)
  pub same : (clocks : List (List (List ℕ))) → AreClocksOf (with_kind w.kinds t.pid.0 (kind_done t.event.exchange)) clocks
      → made w t.pid.0 t.event (after_redo w.state t.pid.0) clocks ≡ unmade_all before prefix

-- the events before the last one, and the last one
record Parted (P : Program) (before : Scene) (prefix : List Taken) (t : Taken) : Type 0 where
  took : AreTakenBack P before prefix
  of : IsWorldOf P (unmade_all before prefix)
  was : last_event (unmade_all before prefix) t.pid.0 ≡ Some t.event
  shorter : IsWorldOf P (unmade (unmade_all before prefix) t.pid.0 t.event)

parted : (P : Program) (before : Scene) (prefix : List Taken) (t : Taken) → IsWorldOf P before → AreTakenBack P before (prefix ++ t ∷ [])
    → Parted P before prefix t
parted P before [] t of took = record { took = tt; of = of; was = took.0; shorter = took.1 }
parted P before (x ∷ prefix) t of took =
    let rest = parted P (unmade before x.pid.0 x.event) prefix t took.1 took.2 in
    record { took = (took.0, took.1, rest.took); of = rest.of; was = rest.was; shorter = rest.shorter }

pub again : (P : Program) (before w : Scene) (prefix : List Taken) (t : Taken) → IsRolledFrom P before (prefix ++ t ∷ []) w
    → Again P before w prefix t
again P before w prefix t r =
    let parts = parted P before prefix t r.of r.took in
    let v = unmade_all before prefix in
    let same : unmade v t.pid.0 t.event ≡ w = sym (unmade_more before prefix t) ∙ sym r.is in
    let made_again = remade P v t.pid.0 t.event parts.of parts.was parts.shorter in
    record {
      of = subst (IsWorldOf P) same parts.shorter;
      choice = made_again.choice;
      makes = subst (λ (s : Scene). Makes P s t.pid.0 made_again.choice t.event) same made_again.makes;
      next = subst (λ (s : Scene). slice_get (line_of s.state t.pid.0) (place_at s.state t.pid.0) ≡ Some made_again.choice) same
          made_again.next;
      left = record { of = r.of; took = parts.took; is = refl };
      same = subst (λ (s : Scene). (clocks : List (List (List ℕ)))
          → AreClocksOf (with_kind s.kinds t.pid.0 (kind_done t.event.exchange)) clocks
          → made s t.pid.0 t.event (after_redo s.state t.pid.0) clocks ≡ v) same made_again.same;
    }

-- Room.

-- for the message of the last event, if both processes exist
pub room_for_last : (processes : ℕ) (grid : GridState) (prefix : List Taken) (t : Taken) → t.pid.0 < processes
    → ((j : ℕ) → j < length (get_or grid.channels t.pid.0 []) → j < processes) → HasRoomForth processes grid.room (prefix ++ t ∷ [])
    → HasRoomsAfter grid t.pid.0 t.event.exchange 1
room_for_last processes grid prefix t here inside room = by t.event.exchange refl
  where
    by : (exchange : Exchange) → t.event.exchange ≡ exchange → HasRoomsAfter grid t.pid.0 exchange 1
    by Nothing e = tt
    by (Sent target value count) e = λ there column.
        let enough = room t.pid.0 target.0 here (inside target.0 column) in
        let one : puts_after t.pid.0 t.event.exchange t.pid.0 target.0 ≡ 1 =
        ap (λ (x : Exchange). puts_after t.pid.0 x t.pid.0 target.0) e ∙ one_of_both (t.pid.0 == t.pid.0) (target.0 == target.0)
        (eq-eqb t.pid.0 t.pid.0 refl) (eq-eqb target.0 target.0 refl) in
        omega (arith, enough, one, puts_push prefix t t.pid.0 target.0)
    by (Took source message count) e = tt

-- there is room for the others
pub room_after : (processes : ℕ) (old new : List (List ℕ)) (prefix : List Taken) (t : Taken)
    → ((i j : ℕ) → room_at old i j ≤ room_at new i j + puts_after t.pid.0 t.event.exchange i j)
    → HasRoomForth processes old (prefix ++ t ∷ []) → HasRoomForth processes new prefix
room_after processes old new prefix t changes room i j i_there j_there =
    let enough = room i j i_there j_there in
    let change = changes i j in
    omega (arith, enough, change, puts_push prefix t i j)

counted_push : (p : ℕ) (prefix : List Taken) (t : Taken) → count_by (is_of p) (prefix ++ t ∷ [])
    ≡ count_by (is_of p) prefix + cond (t.pid.0 == p) 1 0
counted_push p prefix t = sum_by_push (λ (x : Taken). cond (is_of p x) 1 0) prefix t

pub room_one : (past : PastState) (prefix : List Taken) (t : Taken) → t.pid.0 < length past.kinds → HasRoomForEach past (prefix ++ t ∷ [])
    → HasRoomFor past t.pid.0 1
room_one past prefix t here room =
    let enough = room t.pid.0 here in
    let one : cond {A = ℕ} (t.pid.0 == t.pid.0) 1 0 ≡ 1 = ap (λ (b : Bool). cond {A = ℕ} b 1 0) (eq-eqb t.pid.0 t.pid.0 refl) in
    let some : 1 ≤ count_by (is_of t.pid.0) (prefix ++ t ∷ []) = omega (arith, counted_push t.pid.0 prefix t, one) in
    let event = enough.event in
    let kind = enough.kind in
    let clock = enough.clock in
    record { event = omega (arith, event, some); kind = omega (arith, kind, some); clock = omega (arith, clock, some) }

pub room_each : (old new : PastState) (prefix : List Taken) (t : Taken) → length new.kinds ≡ length old.kinds
    → ((n : ℕ) → HasRoomFor old t.pid.0 n → HasRoomFor new t.pid.0 (n - 1))
    → ((q n : ℕ) → q ≢ t.pid.0 → HasRoomFor old q n → HasRoomFor new q n)
    → HasRoomForEach old (prefix ++ t ∷ []) → HasRoomForEach new prefix
room_each old new prefix t size own others room p here =
    let enough = room p (omega (arith, here, size)) in
    ⊎_elim
    (λ (same : p ≡ t.pid.0).
    let one : cond {A = ℕ} (t.pid.0 == p) 1 0 ≡ 1 = ap (λ (b : Bool). cond {A = ℕ} b 1 0) (eq-eqb t.pid.0 p (sym same)) in
    let less : count_by (is_of p) (prefix ++ t ∷ []) - 1 ≡ count_by (is_of p) prefix = omega (arith, counted_push p prefix t, one) in
    subst (λ (n : ℕ). HasRoomFor new p n) less
    (subst (λ (x : ℕ). HasRoomFor new x (count_by (is_of p) (prefix ++ t ∷ []) - 1)) (sym same)
    (own (count_by (is_of p) (prefix ++ t ∷ []))
    (subst (λ (x : ℕ). HasRoomFor old x (count_by (is_of p) (prefix ++ t ∷ []))) same enough))))
    (λ (apart : p ≢ t.pid.0).
    let none : cond {A = ℕ} (t.pid.0 == p) 1 0 ≡ 0 =
    ap (λ (b : Bool). cond {A = ℕ} b 1 0) (ne_eqb t.pid.0 p (λ x. apart (sym x))) in
    let same : count_by (is_of p) (prefix ++ t ∷ []) ≡ count_by (is_of p) prefix = omega (arith, counted_push p prefix t, none) in
    others p (count_by (is_of p) prefix) apart (subst (λ (n : ℕ). HasRoomFor old p n) same enough))
    (cases_eq p t.pid.0)

-- Room that is made event by event.

puts_next : (taken : List Taken) (k : ℕ) (t : Taken) (i j : ℕ) → k < length taken → t ≡ get_or taken k t
    → puts_of (take (k + 1) taken) i j ≡ puts_of (take k taken) i j + puts_after t.pid.0 t.event.exchange i j
puts_next taken k t i j within is =
    let later : k + 1 ≡ suc k = omega arith in
    ap (λ (n : ℕ). puts_of (take n taken) i j) later ∙ next taken k within is
  where
    next : (taken : List Taken) (k : ℕ) → k < length taken → t ≡ get_or taken k t
        → puts_of (take (suc k) taken) i j ≡ puts_of (take k taken) i j + puts_after t.pid.0 t.event.exchange i j
    next [] k within is = absurd (omega (arith, within))
    next (x ∷ taken) zero within is =
        let same : puts_after t.pid.0 t.event.exchange i j ≡ puts_after x.pid.0 x.event.exchange i j =
        ap (λ (y : Taken). puts_after y.pid.0 y.event.exchange i j) is in
        omega (arith, same)
    next (x ∷ taken) (suc k) within is = omega (arith, next taken k (omega (arith, within)) is)

-- if an event sends to process j, there is room for so many messages
abbrev pub HasRoomFrom : List (List (List ℤ)) → List (List ℕ) → List Taken → ℕ → ℕ → Type 0
HasRoomFrom channels room taken p more = (j : ℕ) → p < length channels → j < length (get_or channels p []) → 0 < puts_of taken p j
    → more ≤ room_at room p j

-- an event of process p that sends to process j
sends_here : (channels : List (List (List ℤ))) (room : List (List ℕ)) (q p j more : ℕ) (exchange : Exchange) → p < length channels
    → j < length (get_or channels p []) → 0 < puts_after q exchange p j
    → (q ≡ p → HasRoomsAfter (record { channels = channels; room = room }) p exchange more) → more ≤ room_at room p j
sends_here channels room q p j more Nothing here column some enough = absurd (omega (arith, some))
sends_here channels room q p j more (Sent target value count) here column some enough =
    ⊎_elim
    (λ (own : q ≡ p). ⊎_elim
    (λ (to : target.0 ≡ j). subst (λ (x : ℕ). more ≤ room_at room p x) to
    (enough own here (subst (λ (x : ℕ). x < length (get_or channels p [])) (sym to) column)))
    (λ (apart : target.0 ≢ j). absurd (omega (arith, some, none_of_one (q == p) (target.0 == j) (inr (ne_eqb target.0 j apart)))))
    (cases_eq target.0 j))
    (λ (apart : q ≢ p). absurd (omega (arith, some, none_of_one (q == p) (target.0 == j) (inl (ne_eqb q p apart)))))
    (cases_eq q p)
sends_here channels room q p j more (Took source message count) here column some enough = absurd (omega (arith, some))

pub room_from_next : (channels : List (List (List ℤ))) (old : List (List ℕ)) (grid : GridState) (taken : List Taken) (k p more : ℕ)
    (t : Taken) → k < length taken → t ≡ get_or taken k t → grid.channels ≡ channels
    → ((i j : ℕ) → room_at old i j ≤ room_at grid.room i j)
    → (t.pid.0 ≡ p → HasRoomsAfter grid p t.event.exchange more)
    → HasRoomFrom channels old (take k taken) p more → HasRoomFrom channels grid.room (take (k + 1) taken) p more
room_from_next channels old grid taken k p more t within is same grows enough before j here column some =
    ⊎_elim
    (λ (earlier : 0 < puts_of (take k taken) p j). let had = before j here column earlier in omega (arith, had, grows p j))
    (λ (none : puts_of (take k taken) p j ≤ 0).
    sends_here channels grid.room t.pid.0 p j more t.event.exchange here column
    (omega (arith, some, none, puts_next taken k t p j within is))
    (subst (λ (l : List (List (List ℤ))). t.pid.0 ≡ p
    → HasRoomsAfter (record { channels = l; room = grid.room }) p t.event.exchange more) same enough))
    (cases_lt 0 (puts_of (take k taken) p j))

taken_next : (taken : List Taken) (k : ℕ) (t : Taken) → k < length taken → t ≡ get_or taken k t
    → take (suc k) taken ≡ take k taken ++ t ∷ []
taken_next [] k t within is = absurd (omega (arith, within))
taken_next (x ∷ taken) zero t within is = ap (λ (y : Taken). y ∷ []) (sym is)
taken_next (x ∷ taken) (suc k) t within is = ap (λ (l : List Taken). x ∷ l) (taken_next taken k t (omega (arith, within)) is)

-- one more event is counted for its process, and for no other
pub record CountedNext (taken : List Taken) (k : ℕ) (t : Taken) (p : ℕ) : Type 0 where
  pub own : t.pid.0 ≡ p → count_by (is_of p) (take (k + 1) taken) ≡ count_by (is_of p) (take k taken) + 1
  pub other : t.pid.0 ≢ p → count_by (is_of p) (take (k + 1) taken) ≡ count_by (is_of p) (take k taken)

pub counted_next : (taken : List Taken) (k : ℕ) (t : Taken) (p : ℕ) → k < length taken → t ≡ get_or taken k t
    → CountedNext taken k t p
counted_next taken k t p within is =
    let later : k + 1 ≡ suc k = omega arith in
    let more : count_by (is_of p) (take (k + 1) taken) ≡ count_by (is_of p) (take k taken) + cond (t.pid.0 == p) 1 0 =
    ap (λ (n : ℕ). count_by (is_of p) (take n taken)) later ∙ ap (λ (l : List Taken). count_by (is_of p) l) (taken_next taken k t within is)
    ∙ counted_push p (take k taken) t in
    record {
      own = λ same.
          let one : cond {A = ℕ} (t.pid.0 == p) 1 0 ≡ 1 = ap (λ (b : Bool). cond {A = ℕ} b 1 0) (eq-eqb t.pid.0 p same) in
          omega (arith, more, one);
      other = λ apart.
          let none : cond {A = ℕ} (t.pid.0 == p) 1 0 ≡ 0 = ap (λ (b : Bool). cond {A = ℕ} b 1 0) (ne_eqb t.pid.0 p apart) in
          omega (arith, more, none);
    }

-- room for all events of a process
pub room_whole : (channels : List (List (List ℤ))) (room : List (List ℕ)) (taken : List Taken) (p more : ℕ)
    → more ≡ count_by (is_of p) taken → HasRoomFrom channels room taken p more → (j : ℕ) → p < length channels
    → j < length (get_or channels p []) → puts_of taken p j ≤ room_at room p j
room_whole channels room taken p more is enough j here column =
    ⊎_elim
    (λ (some : 0 < puts_of taken p j). let had = enough j here column some in omega (arith, had, is, puts_counted taken p j))
    (λ (none : puts_of taken p j ≤ 0). omega (arith, none))
    (cases_lt 0 (puts_of taken p j))

-- room that is made for each pair of processes
pub ways_forth : (w : Scene) (room : List (List ℕ)) (taken list : List Taken) → IsSomeWorld w → list ≡ taken
    → ((i j : ℕ) → i < length w.kinds → i < length w.standing.channels → j < length (get_or w.standing.channels i [])
    → puts_of list i j ≤ room_at room i j)
    → HasRoomForth (length w.kinds) room taken
ways_forth w room taken list some same found i j i_there j_there =
    let square = channels_there w some in
    let columns = square.columns i i_there in
    subst (λ (l : List Taken). puts_of l i j ≤ room_at room i j) same
    (found i j i_there (omega (arith, i_there, square.rows)) (omega (arith, j_there, columns)))
