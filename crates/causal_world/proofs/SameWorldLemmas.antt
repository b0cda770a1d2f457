-- The lines and places of a world determine it, since its events have the same result in each order. So an undone event can be made again.
-- The local states of a process are its start followed by its first events.
use Rattle.std.proofs.Common.{◌≡◌, ℕ, zero, suc, ◌+◌, ◌-◌, ◌<◌, List, [], length, get_or, set, replicate, Some, Ok, refl, sym, ap, ◌∙◌}
use Rattle.std.proofs.Common.{subst, arith, ◌≢◌, ◌≤◌, ◌∷◌, ◌++◌, map, ⊎_elim}
use Rattle.std.specs.Prelude.{slice_get}
use Rattle.std.proofs.lemmas.List.{set-set, set-get_or, get_or-set_same, length-set, length_push, length-map, length-replicate}
use Rattle.std.proofs.lemmas.List.{get_or-map, get_or_push, get_or_append_left, take-append-le, take_all}
use Rattle.std.proofs.lemmas.Bool.{cases_eq, cases_lt}
use Rattle.dbg_base.specs.Trees.{Program, command_of}
use Rattle.dbg_base.specs.Configurations.{Configuration, start_of, state_in}
use Rattle.dbg_base.specs.Firing.{fire}
use Rattle.dbg_base.specs.Histories.{History, IsPossible, play, local_state, progress_of}
use Rattle.dbg_base.specs.Orders.{with_last, Event, order_from, states_from, states_of, with_state_of}
use Rattle.dbg_base.specs.SystemStates.{SystemState, line_of, place_at, history_of, choice_before, after_undo, after_redo}
use Rattle.dbg_base.specs.LocalStates.{LocalState, no_state, start_among}
use Rattle.cut_core.specs.declared.kind.Kind.{Kind}
use Rattle.event_rows.specs.EventValues.{EventValue}
use Rattle.event_rows.specs.Events.{after_event, after_events, past_of}
use Rattle.event_rows.proofs.PastStateLemmas.{after_one_more}
use Rattle.dbg_laws.proofs.OrderSwapLemmas.{IsOrderOf, joined, takes, first_step}
use Rattle.dbg_laws.proofs.LineStates.{history_undo, length_cut}
use Rattle.dbg_laws.proofs.LastChoiceLemmas.{IsWaiting}
use Rattle.dbg_laws.proofs.UndoLemmas.{waits}
use Rattle.dbg_laws.proofs.Moves.{kept_state}
use Rattle.dbg_laws.proofs.PrefixLemmas.{last_is_there}
use Rattle.dbg_laws.proofs.Lists.{push, push_same, push_other, length-push, none_in_replicate}
use Rattle.dbg_laws.proofs.PlayLemmas.{states_step, same_states}
use Rattle.causal_world.specs.Pasts.{kind_done, with_kind, kinds_of, AreClocksOf}
use Rattle.causal_world.specs.Scenes.{Scene, IsWorldOf, event_at, made, unmade, with_done, with_event, events_from, events_of}
use Rattle.causal_world.specs.Worlds.{Makes, last_event}
use Rattle.causal_world.proofs.HistoryRecordLemmas.{goes_events, events_step}
use Rattle.causal_world.proofs.WorldOfLemmas.{goes_back}
use Rattle.causal_world.proofs.LastEventLemmas.{last_made}
use Rattle.causal_world.proofs.ClockRows.{same_clocks}
use Rattle.causal_world.proofs.WorldCallLemmas.{repeats}
use Rattle.causal_world.proofs.CommandEventLemmas.{makes}
use Rattle.causal_world.proofs.RollbackLemmas.{choices_counted}

-- what is kept of events is the same
pub record SamePast (v w : Scene) : Type 0 where
  pub standing : v.standing ≡ w.standing
  pub starts : v.starts ≡ w.starts
  pub events : v.events ≡ w.events
  pub kinds : v.kinds ≡ w.kinds
  pub clocks : v.clocks ≡ w.clocks

-- in two worlds of one program with the same history, what is kept of it is the same
pub same_past : (P : Program) (v w : Scene) → IsWorldOf P v → IsWorldOf P w → history_of v.state ≡ history_of w.state → SamePast v w
same_past P v w of other history =
    let order_v : IsOrderOf (history_of w.state) of.fired =
    subst (λ (H : History). IsOrderOf H of.fired) (of.history ∙ history) (takes P (start_of P) v.standing of.fired of.leads) in
    let order_w : IsOrderOf (history_of w.state) other.fired =
    subst (λ (H : History). IsOrderOf H other.fired) other.history (takes P (start_of P) w.standing other.fired other.leads) in
    let goes = joined P (start_of P) v.standing w.standing (history_of w.state) of.fired other.fired of.leads other.leads order_v order_w in
    let kinds : v.kinds ≡ w.kinds = of.counts ∙ ap (kinds_of P) history ∙ sym other.counts in
    record {
      standing = of.standing ∙ ap (play P) history ∙ sym other.standing;
      starts = of.starts ∙ sym other.starts;
      events = of.events ∙ goes_events P (start_of P) (replicate (length P) []) of.fired other.fired goes ∙ sym other.events;
      kinds = kinds;
      clocks = same_clocks w.kinds v.clocks w.clocks
          (subst (λ (k : List (List Kind)). AreClocksOf k v.clocks) kinds of.clocks) other.clocks;
    }

-- two worlds of one program with the same lines and places are equal
pub same_world : (P : Program) (v w : Scene) → IsWorldOf P v → IsWorldOf P w → v.state ≡ w.state → v ≡ w
same_world P v w of other state =
    let same = same_past P v w of other (ap history_of state) in
    λ i. record {
      state = state i;
      standing = same.standing i;
      starts = same.starts i;
      events = same.events i;
      kinds = same.kinds i;
      clocks = same.clocks i;
    }

-- An undone event can be made again.
pub record Remade (P : Program) (w : Scene) (p : ℕ) (event : EventValue) : Type 0 where
  pub choice : ℕ
  pub makes : Makes P (unmade w p event) p choice event
  pub next : slice_get (line_of (unmade w p event).state p) (place_at (unmade w p event).state p) ≡ Some choice
  pub same : (clocks : List (List (List ℕ))) → AreClocksOf (with_kind (unmade w p event).kinds p (kind_done event.exchange)) clocks
      → made (unmade w p event) p event (after_redo (unmade w p event).state p) clocks ≡ w

pub remade : (P : Program) (w : Scene) (p : ℕ) (event : EventValue) → IsWorldOf P w → last_event w p ≡ Some event
    → IsWorldOf P (unmade w p event) → Remade P w p event
remade P w p event of was before =
    let last = last_made P w p event of was in
    let k = last.choice in
    let M = w.state in
    let B : History = history_of (after_undo M p) in
    let whole : history_of M ≡ with_last B p k = history_undo P M of.state p last.here k last.was in
    let within : p < length B =
    (let here = last.here in omega (arith, here, length_cut (after_undo M p).lines (after_undo M p).places, before.state.lines)) in
    let all : IsPossible P (with_last B p k) = subst (IsPossible P) whole of.possible in
    let ends : w.standing ≡ play P (with_last B p k) = of.standing ∙ ap (play P) whole in
    let back = goes_back P w p k of last.here last.was
    (subst (λ (c : Configuration). IsWaiting P c p k) (sym ends) (waits P B p k within before.possible all)) in
    let back_was = back.was in
    let same : back.event ≡ event = cc in
    let place = placed (place_at M p) (line_of M p) k last.was in
    let here : p < length M.places = (let there = last.here in omega (arith, there, of.state.places)) in
    let lower : place_at (unmade w p event).state p ≡ place.0 =
    get_or-set_same M.places p (place_at M p - 1) 0 here ∙ place.2 in
    let next : slice_get (line_of M p) (place_at (unmade w p event).state p) ≡ Some k =
    ap (slice_get (line_of M p)) lower ∙ place.3 in
    let makes : Makes P (unmade w p event) p k event = record {
      here = last.here;
      command = before.state.commands p (place_at (unmade w p event).state p) k next;
      fires = subst (λ (e : EventValue). fire P (unmade w p e).standing p k ≡ Ok (with_done (unmade w p e).standing p e)) same
          (back.fires ∙ ap (λ (c : Configuration). Ok c) back.leads);
      is = subst (λ (e : EventValue). event_at P (unmade w p e).standing p k ≡ Some e) same back.is;
    } in
    record {
      choice = k;
      makes = makes;
      next = next;
      same = λ clocks timed.
          same_world P (made (unmade w p event) p event (after_redo (unmade w p event).state p) clocks) w
          (repeats P (unmade w p event) p k event clocks before makes timed next) of (again M p here place.0 place.1);
    }
  where
    placed : (n : ℕ) (line : List ℕ) (k : ℕ) → choice_before n line ≡ Some k
        → (m : ℕ) × (n ≡ suc m) × (n - 1 ≡ m) × (slice_get line m ≡ Some k)
    placed zero line k e = cc
    placed (suc m) line k e = (m, refl, omega arith, e)

    again : (M : SystemState) (p : ℕ) → p < length M.places → (m : ℕ) → place_at M p ≡ suc m → after_redo (after_undo M p) p ≡ M
    again M p here m is =
        let n = place_at M p in
        let lower : get_or (set M.places p (n - 1)) p 0 ≡ n - 1 = get_or-set_same M.places p (n - 1) 0 here in
        let back : get_or (set M.places p (n - 1)) p 0 + 1 ≡ n = omega (arith, lower, is) in
        let places : set (set M.places p (n - 1)) p (get_or (set M.places p (n - 1)) p 0 + 1) ≡ M.places =
        set-set M.places p (n - 1) (get_or (set M.places p (n - 1)) p 0 + 1) ∙ ap (set M.places p) back ∙ set-get_or M.places p 0 in
        λ i. record { lines = M.lines; places = places i }

-- The local states of a process are its start followed by its first events.

-- Each local state of a line is the start followed by as many of these events, and the last one is the present one.
record Recalled (start : LocalState) (line : List LocalState) (own : List EventValue) (now : LocalState) : Type 0 where
  size : length line ≡ length own + 1
  each : (n : ℕ) → n ≤ length own → get_or line n no_state ≡ past_of start own n
  last : now ≡ past_of start own (length own)

-- the same for equal lines
recalled_at : (start : LocalState) (line l : List LocalState) (own o : List EventValue) (now s : LocalState) → l ≡ line → o ≡ own → s ≡ now
    → Recalled start line own now → Recalled start l o s
recalled_at start line l own o now s same_line same_own same_now is =
    subst (λ (x : List LocalState). Recalled start x o s) (sym same_line)
    (subst (λ (x : List EventValue). Recalled start line x s) (sym same_own)
    (subst (λ (x : LocalState). Recalled start line own x) (sym same_now) is))

-- one more event
recalled_more : (start : LocalState) (line : List LocalState) (own : List EventValue) (now : LocalState) (event : EventValue)
    → Recalled start line own now → Recalled start (line ++ after_event event now ∷ []) (own ++ event ∷ []) (after_event event now)
recalled_more start line own now event is =
    let size : length line ≡ length own + 1 = is.size in
    let more : length (own ++ event ∷ []) ≡ length own + 1 = length_push own event in
    let whole : past_of start (own ++ event ∷ []) (length own + 1) ≡ after_event event now =
    ap (after_events start) (take_all (length own + 1) (own ++ event ∷ []) (omega arith))
    ∙ after_one_more start own event
    ∙ ap (λ (l : List EventValue). after_event event (after_events start l)) (sym (take_all (length own) own (omega arith)))
    ∙ ap (after_event event) (sym is.last) in
    record {
      size = length_push line (after_event event now) ∙ omega arith;
      each = λ n le.
          ⊎_elim
          (λ (beyond : length own < n).
          let here : n ≡ length own + 1 = omega arith in
          get_or_push line (after_event event now) no_state n (omega arith)
          ∙ sym whole ∙ ap (past_of start (own ++ event ∷ [])) (sym here))
          (λ (old : n ≤ length own).
          get_or_append_left line (after_event event now ∷ []) no_state n (omega arith) ∙ is.each n old
          ∙ ap (after_events start) (sym (take-append-le n own (event ∷ []) old)))
          (cases_lt (length own) n);
      last = sym whole ∙ ap (past_of start (own ++ event ∷ [])) (sym more);
    }

-- as the events fire
recalled : (P : Program) (start : LocalState) (p : ℕ) (c d : Configuration) (states : List (List LocalState))
    (events : List (List EventValue)) (E : List Event) → order_from P c E ≡ Ok d → p < length states → p < length events
    → p < length c.states → Recalled start (get_or states p []) (get_or events p []) (state_in c p)
    → Recalled start (get_or (states_from P c states E) p []) (get_or (events_from P c events E) p []) (state_in d p)
recalled P start p c d states events [] legal there kept within is =
    let same : d ≡ c = cc in
    subst (λ (x : Configuration). Recalled start (get_or states p []) (get_or events p []) (state_in x p)) (sym same) is
recalled P start p c d states events (e ∷ E) legal there kept within is =
    let q = e.process in
    let step = first_step (fire P c q e.choice) (λ x. order_from P x E) d legal in
    let b : Configuration = step.0 in
    let m = makes (command_of P q e.choice) c q e.choice b step.1 in
    let later_states : List (List LocalState) = with_state_of states q b in
    let later_events : List (List EventValue) = with_event events q (event_at P c q e.choice) in
    let pushed : later_events ≡ push events q m.event = ap (with_event events q) m.is in
    let sized : length b.states ≡ length c.states =
    ap (λ (x : Configuration). length x.states) m.leads ∙ length-set c.states q (after_event m.event (state_in c q)) in
    let next : Recalled start (get_or later_states p []) (get_or later_events p []) (state_in b p) =
    ⊎_elim
    (λ (same : q ≡ p).
    let state : state_in b p ≡ after_event m.event (state_in c p) =
    ap (λ (x : Configuration). state_in x p) (m.leads ∙ ap (λ (x : ℕ). with_done c x m.event) same)
    ∙ get_or-set_same c.states p (after_event m.event (state_in c p)) no_state within in
    recalled_at start (get_or states p [] ++ after_event m.event (state_in c p) ∷ []) (get_or later_states p [])
    (get_or events p [] ++ m.event ∷ []) (get_or later_events p []) (after_event m.event (state_in c p)) (state_in b p)
    (ap (λ (x : ℕ). get_or (push states x (state_in b x)) p []) same ∙ push_same states p (state_in b p) there
    ∙ ap (λ (s : LocalState). get_or states p [] ++ s ∷ []) state)
    (ap (λ (l : List (List EventValue)). get_or l p []) (pushed ∙ ap (λ (x : ℕ). push events x m.event) same)
    ∙ push_same events p m.event kept)
    state
    (recalled_more start (get_or states p []) (get_or events p []) (state_in c p) m.event is))
    (λ (apart : q ≢ p).
    let back : p ≢ q = λ x. apart (sym x) in
    recalled_at start (get_or states p []) (get_or later_states p []) (get_or events p []) (get_or later_events p [])
    (state_in c p) (state_in b p) (push_other states q p (state_in b q) back)
    (ap (λ (l : List (List EventValue)). get_or l p []) pushed ∙ push_other events q p m.event back)
    (kept_state P c b q e.choice p apart step.1) is)
    (cases_eq q p) in
    recalled_at start
    (get_or (states_from P b later_states E) p []) (get_or (states_from P c states (e ∷ E)) p [])
    (get_or (events_from P b later_events E) p []) (get_or (events_from P c events (e ∷ E)) p [])
    (state_in d p) (state_in d p)
    (ap (λ (l : List (List LocalState)). get_or l p []) (states_step P c b states e E step.1))
    (ap (λ (l : List (List EventValue)). get_or l p []) (events_step P c b events e E step.1))
    refl
    (recalled P start p b d later_states later_events E step.2
    (omega (arith, there, length-push states q (state_in b q)))
    (omega (arith, kept, ap (λ (l : List (List EventValue)). length l) pushed, length-push events q m.event))
    (omega arith) next)

module _ (P : Program) (w : Scene) (p : ℕ) (of : IsWorldOf P w) (here : p < length P) where
  abbrev opening : List LocalState
  opening = (start_of P).states

  abbrev H : History
  H = history_of w.state

  -- the local states of a process of a world
  all_recalled : Recalled (get_or w.starts p no_state) (get_or (progress_of P H).states p []) (get_or w.events p [])
      (get_or w.standing.states p no_state)
  all_recalled =
      let none : List (List EventValue) = replicate (length P) [] in
      let within : p < length opening = rw (length-map P (start_among (length P))) here in
      let line : get_or (map (λ (state : LocalState). state ∷ []) opening) p [] ≡ get_or opening p no_state ∷ [] =
      get_or-map (λ (state : LocalState). state ∷ []) opening p no_state [] within in
      let own : get_or none p [] ≡ [] = none_in_replicate (length P) p in
      let order : IsOrderOf H of.fired =
      subst (λ (X : History). IsOrderOf X of.fired) of.history (takes P (start_of P) w.standing of.fired of.leads) in
      let first : Recalled (get_or opening p no_state) (get_or opening p no_state ∷ []) [] (get_or opening p no_state) =
      record {
        size = refl;
        each = λ n le. (let zero_there : n ≡ 0 = omega arith in
            ap (λ (x : ℕ). get_or (get_or opening p no_state ∷ []) x no_state) zero_there
            ∙ ap (past_of (get_or opening p no_state) []) (sym zero_there));
        last = refl;
      } in
      let all = recalled P (get_or opening p no_state) p (start_of P) w.standing
      (map (λ (state : LocalState). state ∷ []) opening) none of.fired of.leads
      (rw (length-map opening (λ (state : LocalState). state ∷ [])) within)
      (rw (length-replicate {A = List EventValue} (length P) []) here) within
      (recalled_at (get_or opening p no_state) (get_or opening p no_state ∷ [])
      (get_or (map (λ (state : LocalState). state ∷ []) opening) p []) [] (get_or none p [])
      (get_or opening p no_state) (state_in (start_of P) p) line own refl first) in
      subst (λ (s : List LocalState). Recalled (get_or s p no_state) (get_or (progress_of P H).states p []) (get_or w.events p [])
      (get_or w.standing.states p no_state)) (sym of.starts)
      (recalled_at (get_or opening p no_state)
      (get_or (states_of P of.fired) p []) (get_or (progress_of P H).states p [])
      (get_or (events_of P of.fired) p []) (get_or w.events p [])
      (get_or w.standing.states p no_state) (get_or w.standing.states p no_state)
      (ap (λ (l : List (List LocalState)). get_or l p []) (sym (same_states P H of.fired w.standing of.leads order of.possible)))
      (ap (λ (l : List (List EventValue)). get_or l p []) of.events) refl all)

  -- a process has as many events as its place says
  pub events_numbered : length (get_or w.events p []) ≡ place_at w.state p
  events_numbered =
      let r = all_recalled in
      let last_there = last_is_there P H p of.possible here in
      omega (arith, r.size, last_there.size, choices_counted P w p of)

-- the local state of a process after its n-th event is the start followed by the first n events
pub remembered : (P : Program) (w : Scene) (p n : ℕ) → IsWorldOf P w → p < length P → n ≤ place_at w.state p
    → local_state P (history_of w.state) p n ≡ past_of (get_or w.starts p no_state) (get_or w.events p []) n
remembered P w p n of here le =
    let r = all_recalled P w p of here in
    r.each n (omega (arith, le, events_numbered P w p of here))

-- the present local state is the one after all its events
pub present : (P : Program) (w : Scene) (p : ℕ) → IsWorldOf P w → p < length P
    → get_or w.standing.states p no_state ≡ past_of (get_or w.starts p no_state) (get_or w.events p []) (length (get_or w.events p []))
present P w p of here = let r = all_recalled P w p of here in r.last
