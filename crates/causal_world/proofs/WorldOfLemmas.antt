-- A world opens, makes an event, and undoes the last event of a process whose message is still on its way. It is of its program each time.
use Rattle.std.proofs.Common.{◌≡◌, ◌≢◌, ℕ, zero, suc, ◌+◌, ◌<◌, ◌≤◌, List, [], ◌∷◌, ◌++◌, length, get_or, set, replicate, Some, Ok, refl}
use Rattle.std.proofs.Common.{sym, ap, ◌∙◌, subst, ⊎_elim, arith, ◌-◌, ℤ, take, Option, None}
use Rattle.std.specs.Prelude.{slice_get}
use Rattle.std.proofs.lemmas.Bool.{cases_eq}
use Rattle.std.proofs.lemmas.List.{set_comm, set-set, set_past, get_or-set_same, get_or-set_other, length-replicate, set-get_or}
use Rattle.std.proofs.lemmas.List.{length-set, length-map, length-take-le, take-take, length_push}
use Rattle.dbg_base.specs.Trees.{Program, Action, Local, Sends, Receives, Command, command_of}
use Rattle.dbg_base.specs.Configurations.{Configuration, start_of, state_in}
use Rattle.dbg_base.specs.Firing.{fire, effect_of}
use Rattle.dbg_base.specs.Histories.{History, IsPossible, play}
use Rattle.dbg_base.specs.Orders.{Event, order_from, order, with_first, with_last, choices_of}
use Rattle.dbg_base.specs.SystemStates.{SystemState, opening_state, line_of, cut_lines, history_of, IsStateOf, place_at, last_choice}
use Rattle.dbg_base.specs.SystemStates.{after_undo}
use Rattle.dbg_base.specs.LocalStates.{LocalState, no_state, start_among}
use Rattle.dbg_base.specs.Reversal.{without_back, without_last, MayUndo}
use Rattle.cut_core.specs.declared.kind.Kind.{Kind}
use Rattle.event_rows.specs.EventValues.{EventValue}
use Rattle.event_rows.specs.declared.exchange.Exchange.{Exchange}
use Rattle.event_rows.specs.declared.exchange.Exchange.TheVariants.{Nothing, Sent, Took}
use Rattle.event_rows.specs.Exchanges.{IsNextCount}
use Rattle.event_rows.specs.Events.{after_event, before_event, Fits}
use Rattle.event_rows.proofs.UndoneEventLemmas.{has_old_values}
use Rattle.event_rows.proofs.UndoneEventLemmas as events
use Rattle.fifo_grid.specs.Grids.{messages_at}
use Rattle.fifo_grid.proofs.RestoredChannelLemmas.{unpushed_back, unpopped_prefix}
use Rattle.dbg_laws.proofs.Lists.{within_or_past, none_in_replicate, push, push_same, set_push}
use Rattle.dbg_laws.proofs.OrderSwapLemmas.{IsOrderOf, first_step, takes, IsEmpty, joined}
use Rattle.dbg_laws.proofs.PlayLemmas.{possible, listed}
use Rattle.dbg_laws.proofs.PrefixLemmas.{order_both, one_event, order_more, prefix_within, last_fires}
use Rattle.dbg_laws.proofs.Moves.{fires}
use Rattle.dbg_laws.proofs.LastChoiceLemmas.{IsWaiting}
use Rattle.dbg_laws.proofs.UndoLemmas.{undone, back_off}
use Rattle.dbg_laws.proofs.LineStates.{state_undo, history_undo, events_at, same_line, history_changed, length_cut}
use Rattle.causal_world.specs.Scenes.{Scene, event_at, with_event, events_from, events_of, IsWorldOf, with_done, made, message_for}
use Rattle.causal_world.specs.Scenes.{exchange_for, event_if, channels_after, channels_before, with_undone, without_event, unmade}
use Rattle.causal_world.specs.Pasts.{kinds_from, kinds_of, kind_done, with_kind, AreClocksOf, kind_at, without_kind, IsWhole}
use Rattle.causal_world.proofs.HistoryRecordLemmas.{kind_event, kinds_more, events_step, length_kinds, kinds_at, kinds_less, whole_kinds, goes_events}
use Rattle.causal_world.proofs.ClockRows.{clocks_less}
use Rattle.causal_world.proofs.CommandEventLemmas.{done_by, makes}

-- One more event at the end of a list.

first_last_within : (H : History) (p j k : ℕ) → p < length H → with_first (with_last H p k) p j ≡ with_last (with_first H p j) p k
first_last_within H p j k within =
    let l = get_or H p [] in
    set-set H p (l ++ k ∷ []) (j ∷ get_or (set H p (l ++ k ∷ [])) p [])
    ∙ ap (λ (x : List ℕ). set H p (j ∷ x)) (get_or-set_same H p (l ++ k ∷ []) [] within)
    ∙ ap (λ (x : List ℕ). set H p (x ++ k ∷ [])) (sym (get_or-set_same H p (j ∷ l) [] within))
    ∙ sym (set-set H p (j ∷ l) (get_or (set H p (j ∷ l)) p [] ++ k ∷ []))

twice_past : (H : History) (p : ℕ) (x y : List ℕ) → length H ≤ p → set (set H p x) p y ≡ H
twice_past H p x y past = set-set H p x y ∙ set_past H p y past

first_last_past : (H : History) (p j k : ℕ) → length H ≤ p → with_first (with_last H p k) p j ≡ with_last (with_first H p j) p k
first_last_past H p j k past = twice_past H p _ _ past ∙ sym (twice_past H p _ _ past)

first_last_apart : (H : History) (p q j k : ℕ) → q ≢ p → with_first (with_last H p k) q j ≡ with_last (with_first H q j) p k
first_last_apart H p q j k apart =
    let back : p ≢ q = λ x. apart (sym x) in
    ap (λ (x : List ℕ). set (with_last H p k) q (j ∷ x)) (get_or-set_other H p q (get_or H p [] ++ k ∷ []) [] apart)
    ∙ set_comm H p q (get_or H p [] ++ k ∷ []) (j ∷ get_or H q []) back
    ∙ ap (λ (x : List ℕ). set (with_first H q j) p (x ++ k ∷ [])) (sym (get_or-set_other H q p (j ∷ get_or H q []) [] back))

first_last : (H : History) (p q j k : ℕ) → with_first (with_last H p k) q j ≡ with_last (with_first H q j) p k
first_last H p q j k =
    ⊎_elim
    (λ (same : q ≡ p). subst (λ (x : ℕ). with_first (with_last H p k) x j ≡ with_last (with_first H x j) p k) (sym same)
    (⊎_elim (first_last_within H p j k) (first_last_past H p j k) (within_or_past (length H) p)))
    (first_last_apart H p q j k) (cases_eq q p)

pub choices_more : (n : ℕ) (E : List Event) (e : Event) → choices_of n (E ++ e ∷ []) ≡ with_last (choices_of n E) e.process e.choice
choices_more n [] e =
    ap (λ (l : List ℕ). set (replicate n []) e.process (e.choice ∷ l)) (none_in_replicate n e.process)
    ∙ ap (λ (l : List ℕ). set (replicate n []) e.process (l ++ e.choice ∷ [])) (sym (none_in_replicate n e.process))
choices_more n (f ∷ E) e =
    ap (λ (H : History). with_first H f.process f.choice) (choices_more n E e)
    ∙ first_last (choices_of n E) e.process f.process f.choice e.choice

pub events_more : (P : Program) (c d b : Configuration) (events : List (List EventValue)) (E : List Event) (e : Event)
    → order_from P c E ≡ Ok d → fire P d e.process e.choice ≡ Ok b
    → events_from P c events (E ++ e ∷ []) ≡ with_event (events_from P c events E) e.process (event_at P d e.process e.choice)
events_more P c d b events [] e legal fires =
    let same : c ≡ d = cc in
    events_step P c b events e [] (subst (λ (x : Configuration). fire P x e.process e.choice ≡ Ok b) (sym same) fires)
    ∙ ap (λ (x : Configuration). with_event events e.process (event_at P x e.process e.choice)) same
events_more P c d b events (f ∷ E) e legal fires =
    let first = first_step (fire P c f.process f.choice) (λ x. order_from P x E) d legal in
    let now = with_event events f.process (event_at P c f.process f.choice) in
    events_step P c first.0 events f (E ++ e ∷ []) first.1
    ∙ events_more P first.0 d b now E e first.2 fires
    ∙ ap (λ (l : List (List EventValue)). with_event l e.process (event_at P d e.process e.choice))
    (sym (events_step P c first.0 events f E first.1))

-- The world after a choice that fires.
pub goes_on : (P : Program) (w : Scene) (p k : ℕ) (event : EventValue) (state : SystemState) (clocks : List (List (List ℕ)))
    (d : Configuration) → IsWorldOf P w → fire P w.standing p k ≡ Ok d → event_at P w.standing p k ≡ Some event
    → d ≡ with_done w.standing p event → IsStateOf P state → history_of state ≡ with_last (history_of w.state) p k
    → AreClocksOf (with_kind w.kinds p (kind_done event.exchange)) clocks → IsWorldOf P (made w p event state clocks)
goes_on P w p k event state clocks d of fires is leads state_of history timed =
    let e : Event = record { process = p; choice = k } in
    let E : List Event = of.fired ++ e ∷ [] in
    let legal : order P E ≡ Ok d =
    order_both P (start_of P) w.standing d of.fired (e ∷ []) of.leads (one_event P w.standing d p k fires) in
    let choices : choices_of (length P) E ≡ history_of state =
    choices_more (length P) of.fired e ∙ ap (λ (H : History). with_last H p k) of.history ∙ sym history in
    let played =
    possible P (history_of state) E d legal (subst (λ (H : History). IsOrderOf H E) choices (takes P (start_of P) d E legal)) in
    record {
      state = state_of;
      possible = played.0;
      standing = sym leads ∙ sym played.1;
      starts = of.starts;
      fired = E;
      history = choices;
      leads = legal ∙ ap (λ (x : Configuration). Ok x) leads;
      events = ap (λ (l : List (List EventValue)). with_event l p (Some event)) of.events
          ∙ ap (with_event (events_of P of.fired) p) (sym is)
          ∙ sym (events_more P (start_of P) w.standing d (replicate (length P) []) of.fired e of.leads fires);
      counts = ap (λ (kinds : List (List Kind)). with_kind kinds p (kind_done event.exchange)) of.counts
          ∙ ap (with_kind (kinds_of P (history_of w.state)) p) (kind_event P w.standing p k event is fires)
          ∙ sym (ap (kinds_of P) history ∙ kinds_more P (history_of w.state) p k);
      clocks = timed;
    }

-- The world at the start.

no_events : (n : ℕ) → cut_lines (replicate n []) (replicate n 0) ≡ replicate n []
no_events zero = refl
no_events (suc n) = ap (λ (H : History). [] ∷ H) (no_events n)

no_places : (n p : ℕ) → ◌≡◌ {A = ℕ} (get_or (replicate n 0) p 0) 0
no_places zero p = refl
no_places (suc n) zero = refl
no_places (suc n) (suc p) = no_places n p

opens_state : (P : Program) → IsStateOf P (opening_state P)
opens_state P = record {
  lines = length-replicate (length P) [];
  places = length-replicate (length P) 0;
  within = λ p. let none = no_places (length P) p in omega (arith, none);
  few = λ p. let none : length (line_of (opening_state P) p) ≡ 0 = ap (λ (l : List ℕ). length l) (none_in_replicate (length P) p) in
      omega (arith, none);
  commands = λ p n k at.
      let none : slice_get (line_of (opening_state P) p) n ≡ slice_get [] n =
      ap (λ (l : List ℕ). slice_get l n) (none_in_replicate (length P) p) in cc;
}

pub opened : (P : Program) (w : Scene) → w.state ≡ opening_state P → w.standing ≡ start_of P → w.starts ≡ (start_of P).states
    → w.events ≡ replicate (length P) [] → w.kinds ≡ replicate (length P) [] → AreClocksOf w.kinds w.clocks → IsWorldOf P w
opened P w state standing starts events kinds timed =
    let history : history_of w.state ≡ replicate (length P) [] = ap history_of state ∙ no_events (length P) in
    let played = possible P (replicate (length P) []) [] (start_of P) refl (takes P (start_of P) (start_of P) [] refl) in
    record {
      state = subst (IsStateOf P) (sym state) (opens_state P);
      possible = rw history played.0;
      standing = rw history (standing ∙ sym played.1);
      starts = starts;
      fired = [];
      history = sym history;
      leads = ap (λ (x : Configuration). Ok x) (sym standing);
      events = events;
      counts = kinds ∙ sym (ap (kinds_of P) history ∙ no_kinds P 0 (length P));
      clocks = timed;
    }
  where
    no_kinds : (P : Program) (p n : ℕ) → kinds_from P p (replicate n []) ≡ replicate n []
    no_kinds P p zero = refl
    no_kinds P p (suc n) = ap (λ (l : List (List Kind)). [] ∷ l) (no_kinds P (p + 1) n)

-- An event that was made fits there, and undoing it leads back.

exchange_fits : (state : LocalState) (action : Action) (sent taken : Option ℤ) → IsNextCount (exchange_for state action sent taken) state
exchange_fits state Local sent taken = tt
exchange_fits state (Sends target value) None taken = tt
exchange_fits state (Sends target value) (Some z) taken = refl
exchange_fits state (Receives source variable) sent None = tt
exchange_fits state (Receives source variable) sent (Some m) = refl

-- the message that an exchange received is at the head
abbrev IsPrefix : Configuration → ℕ → Exchange → Type 0
IsPrefix c p (Took source message count) = slice_get (messages_at c.channels source.0 p) 0 ≡ Some message
IsPrefix c p exchange = Unit {0}

prefix_by : (c : Configuration) (p source variable : ℕ) (state : LocalState) (sent taken : Option ℤ)
    → slice_get (messages_at c.channels source p) 0 ≡ taken → IsPrefix c p (exchange_for state (Receives source variable) sent taken)
prefix_by c p source variable state sent None e = tt
prefix_by c p source variable state sent (Some m) e = e

exchange_prefix : (c : Configuration) (p : ℕ) (state : LocalState) (action : Action) (sent : Option ℤ)
    → IsPrefix c p (exchange_for state action sent (message_for c p action))
exchange_prefix c p state Local sent = tt
exchange_prefix c p state (Sends target value) None = tt
exchange_prefix c p state (Sends target value) (Some z) = tt
exchange_prefix c p state (Receives source variable) sent =
    prefix_by c p source variable state sent (message_for c p (Receives source variable)) refl

record Fitting (c : Configuration) (p : ℕ) (event : EventValue) : Type 0 where
  fits : Fits event (state_in c p)
  prefix : IsPrefix c p event.exchange

fitting : (c : Configuration) (p k : ℕ) (o : Option Command) (event : EventValue) → event_if c p k o ≡ Some event → Fitting c p event
fitting c p k None event is = cc
fitting c p k (Some command) event is =
    let state = state_in c p in
    let taken = message_for c p command.action in
    let known = done_by (effect_of command state taken) k command.action state taken event is in
    subst (Fitting c p) (sym known.2) (record {
      fits = record {
        old_values = has_old_values state.values known.0.sets;
        next_count = exchange_fits state command.action known.0.message taken;
      };
      prefix = exchange_prefix c p state command.action known.0.message;
    })

channels_back : (c : Configuration) (p : ℕ) (exchange : Exchange) → IsPrefix c p exchange
    → channels_before (channels_after c.channels p exchange) p exchange ≡ c.channels
channels_back c p Nothing prefix = refl
channels_back c p (Sent target value count) prefix = unpushed_back c.channels _ _ p target.0 value refl refl
channels_back c p (Took source message count) prefix = unpopped_prefix c.channels _ _ source.0 p message prefix refl refl

pub taken_back : (c : Configuration) (p k : ℕ) (o : Option Command) (event : EventValue) → p < length c.states
    → event_if c p k o ≡ Some event → with_undone (with_done c p event) p event ≡ c
taken_back c p k o event there is =
    let f = fitting c p k o event is in
    let state = state_in c p in
    let states : set (set c.states p (after_event event state)) p (before_event event (state_in (with_done c p event) p)) ≡ c.states =
    set-set c.states p (after_event event state) (before_event event (state_in (with_done c p event) p))
    ∙ ap (λ (s : LocalState). set c.states p (before_event event s)) (get_or-set_same c.states p (after_event event state) no_state there)
    ∙ ap (set c.states p) (events.undone event state f.fits)
    ∙ set-get_or c.states p no_state in
    let channels = channels_back c p event.exchange f.prefix in
    λ i. record { states = states i; channels = channels i }

-- Sizes.

pub sized : (P : Program) (c d : Configuration) (E : List Event) → order_from P c E ≡ Ok d → length d.states ≡ length c.states
sized P c d [] legal = let same : c ≡ d = cc in ap (λ (x : Configuration). length x.states) (sym same)
sized P c d (e ∷ E) legal =
    let step = first_step (fire P c e.process e.choice) (λ x. order_from P x E) d legal in
    let f = fires (command_of P e.process e.choice) c e.process step.0 step.1 in
    sized P step.0 d E step.2 ∙ ap (λ (x : Configuration). length x.states) f.leads ∙ length-set c.states e.process f.state

pub length_with : (events : List (List EventValue)) (p : ℕ) (o : Option EventValue) → length (with_event events p o) ≡ length events
length_with events p None = refl
length_with events p (Some event) = length-set events p (get_or events p [] ++ event ∷ [])

pub length_events : (P : Program) (c d : Configuration) (events : List (List EventValue)) (E : List Event) → order_from P c E ≡ Ok d
    → length (events_from P c events E) ≡ length events
length_events P c d events [] legal = refl
length_events P c d events (e ∷ E) legal =
    let step = first_step (fire P c e.process e.choice) (λ x. order_from P x E) d legal in
    let now = event_at P c e.process e.choice in
    ap (λ (l : List (List EventValue)). length l) (events_step P c step.0 events e E step.1)
    ∙ length_events P step.0 d (with_event events e.process now) E step.2 ∙ length_with events e.process now

-- Taking a history apart in an order gives that history.

empty_is : (H : History) → IsEmpty H → replicate (length H) [] ≡ H
empty_is [] empty = refl
empty_is (choices ∷ H) empty = λ i. (sym empty.0 i) ∷ (empty_is H empty.1 i)

pub order_is : (n : ℕ) (H : History) (E : List Event) → length H ≡ n → IsOrderOf H E → choices_of n E ≡ H
order_is n H [] size empty = ap (λ (m : ℕ). replicate m []) (sym size) ∙ empty_is H empty
order_is n H (e ∷ E) size order =
    let p = e.process in
    let there : p < length H = prefix_within H p e.choice order.0 order.1 in
    ap (λ (X : History). set X p (e.choice ∷ get_or X p [])) (order_is n (set H p order.0) E (length-set H p order.0 ∙ size) order.2)
    ∙ set-set H p order.0 (e.choice ∷ get_or (set H p order.0) p [])
    ∙ ap (λ (l : List ℕ). set H p (e.choice ∷ l)) (get_or-set_same H p order.0 [] there)
    ∙ ap (set H p) (sym order.1) ∙ set-get_or H p []

-- The history without the last event of a process is that of the state after an undo.
pub history_without : (P : Program) (M : SystemState) (p : ℕ) → IsStateOf P M → p < length P
    → history_of (after_undo M p) ≡ without_last (history_of M) p
history_without P M p is here =
    let n = place_at M p in
    let line = line_of M p in
    let size : length (take n line) ≡ n = length-take-le n line (is.within p) in
    let fewer : n - 1 ≤ n = omega arith in
    ap history_of (same_line P M is p here (n - 1)) ∙ history_changed P M is p here line (n - 1)
    ∙ ap (set (history_of M) p) (sym (ap (λ (m : ℕ). take (m - 1) (take n line)) size ∙ take-take (n - 1) n line fewer))
    ∙ ap (λ (l : List ℕ). set (history_of M) p (without_back l)) (sym (events_at P M is p here))

-- the earlier parts of the world
pub record WentBack (P : Program) (w : Scene) (p k : ℕ) : Type 0 where
  pub event : EventValue
  pub is : event_at P (unmade w p event).standing p k ≡ Some event
  pub leads : w.standing ≡ with_done (unmade w p event).standing p event
  pub fires : fire P (unmade w p event).standing p k ≡ Ok w.standing
  pub was : slice_get (get_or w.events p []) (length (get_or w.events p []) - 1) ≡ Some event
  pub may : MayUndo P (history_of w.state) p
  pub of : IsWorldOf P (unmade w p event)

pub get_last : {A : Type 0} (l : List A) (x : A) → slice_get (l ++ x ∷ []) (length (l ++ x ∷ []) - 1) ≡ Some x
get_last {A} l x =
    let size : length (l ++ x ∷ []) - 1 ≡ length l = omega (arith, length_push l x) in
    ap (slice_get (l ++ x ∷ [])) size ∙ at_end l x
  where
    at_end : (l : List A) (x : A) → slice_get (l ++ x ∷ []) (length l) ≡ Some x
    at_end [] x = refl
    at_end (y ∷ l) x = at_end l x

pub goes_back : (P : Program) (w : Scene) (p k : ℕ) → IsWorldOf P w → p < length P → last_choice w.state p ≡ Some k
    → IsWaiting P w.standing p k → WentBack P w p k
goes_back P w p k of here last waiting =
    let M = w.state in
    let B : History = history_of (after_undo M p) in
    let whole : history_of M ≡ with_last B p k = history_undo P M of.state p here k last in
    let lines : length B ≡ length P = length_cut (after_undo M p).lines (after_undo M p).places ∙ of.state.lines in
    let within : p < length B = omega arith in
    let all : IsPossible P (with_last B p k) = subst (IsPossible P) whole of.possible in
    let ends : w.standing ≡ play P (with_last B p k) = of.standing ∙ ap (play P) whole in
    let shorter : IsPossible P B = undone P B p k within all (subst (λ (c : Configuration). IsWaiting P c p k) ends waiting) in
    let c = play P B in
    let fires = last_fires P B p k within shorter all in
    let l = listed P B shorter in
    let e : Event = record { process = p; choice = k } in
    let m = makes (command_of P p k) c p k (play P (with_last B p k)) fires in
    let legal = order_both P (start_of P) c (play P (with_last B p k)) l.events (e ∷ []) l.legal
    (one_event P c (play P (with_last B p k)) p k fires) in
    let goes =
    joined P (start_of P) w.standing (play P (with_last B p k)) (with_last B p k) of.fired (l.events ++ e ∷ []) of.leads legal
    (subst (λ (H : History). IsOrderOf H of.fired) (of.history ∙ whole) (takes P (start_of P) w.standing of.fired of.leads))
    (order_more B p k l.events within l.takes) in
    let none : List (List EventValue) = replicate (length P) [] in
    let before : List (List EventValue) = events_of P l.events in
    let now : w.events ≡ push before p m.event =
    of.events ∙ goes_events P (start_of P) none of.fired (l.events ++ e ∷ []) goes
    ∙ events_more P (start_of P) c (play P (with_last B p k)) none l.events e l.legal fires
    ∙ ap (with_event before p) m.is in
    let rows : p < length before =
    omega (arith, length_events P (start_of P) c none l.events l.legal, length-replicate {A = List EventValue} (length P) []) in
    let own : get_or w.events p [] ≡ get_or before p [] ++ m.event ∷ [] =
    ap (λ (x : List (List EventValue)). get_or x p []) now ∙ push_same before p m.event rows in
    let there : p < length c.states =
    omega (arith, sized P (start_of P) c l.events l.legal, length-map P (start_among (length P))) in
    let standing : with_undone w.standing p m.event ≡ c =
    ap (λ (x : Configuration). with_undone x p m.event) (ends ∙ m.leads) ∙ taken_back c p k (command_of P p k) m.event there m.is in
    let events_before : without_event w.events p ≡ before =
    ap (λ (x : List (List EventValue)). set x p (without_back (get_or w.events p []))) now
    ∙ set_push before p m.event (without_back (get_or w.events p []))
    ∙ ap (λ (x : List EventValue). set before p (without_back x)) own
    ∙ ap (set before p) (back_off (get_or before p []) m.event)
    ∙ set-get_or before p [] in
    let kinds_before : kinds_of P B ≡ without_kind (kinds_of P (history_of M)) p =
    ap (kinds_of P) (history_without P M p of.state here) ∙ kinds_less P (history_of M) p in
    let kinds_there : length w.kinds ≡ length (history_of M) =
    ap (λ (kinds : List (List Kind)). length kinds) of.counts ∙ length_kinds P (history_of M) in
    let whole_size : length (history_of M) ≡ length P = length_cut M.lines M.places ∙ of.state.lines in
    let size : length (get_or (history_of M) p []) ≡ suc (length (get_or B p [])) =
    ap (λ (H : History). length (get_or H p [])) whole ∙ ap (λ (x : List ℕ). length x) (push_same B p k within)
    ∙ omega (arith, length_push (get_or B p []) k) in
    let some_kinds : 0 < length (get_or w.kinds p []) =
    omega (
      arith,
      size,
      ap (λ (kinds : List (List Kind)). length (get_or kinds p [])) of.counts
          ∙ ap (λ (l : List Kind). length l) (kinds_at P (history_of M) p) ∙ length-map (get_or (history_of M) p []) (kind_at P p),
    ) in
    record {
      event = m.event;
      is = ap (λ (x : Configuration). event_at P x p k) standing ∙ m.is;
      leads = ends ∙ m.leads ∙ ap (λ (x : Configuration). with_done x p m.event) (sym standing);
      fires = ap (λ (x : Configuration). fire P x p k) standing ∙ fires ∙ ap (λ (x : Configuration). Ok x) (sym ends);
      was = ap (λ (x : List EventValue). slice_get x (length x - 1)) own ∙ get_last (get_or before p []) m.event;
      may = record {
        some = omega (arith, size);
        rest = subst (IsPossible P) (history_without P M p of.state here) shorter;
      };
      of = record {
        state = state_undo P M of.state p here;
        possible = shorter;
        standing = standing;
        starts = of.starts;
        fired = l.events;
        history = order_is (length P) B l.events lines l.takes;
        leads = l.legal ∙ ap (λ (x : Configuration). Ok x) (sym standing);
        events = events_before;
        counts = ap (λ (kinds : List (List Kind)). without_kind kinds p) of.counts ∙ sym kinds_before;
        clocks = clocks_less w.kinds w.clocks p (omega (arith, kinds_there, whole_size)) some_kinds
            (subst IsWhole (kinds_before ∙ ap (λ (kinds : List (List Kind)). without_kind kinds p) (sym of.counts))
            (whole_kinds P B shorter)) of.clocks;
      };
    }
