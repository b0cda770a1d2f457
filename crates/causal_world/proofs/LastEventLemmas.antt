-- The sizes of a world's lists, and the last event of each process. That event may be undone if its message is on its channel. If not, the
-- receiver needs it.
use Rattle.std.proofs.Common.{◌≡◌, ◌≢◌, ℕ, zero, suc, ◌-◌, ◌<◌, ◌≤◌, ◌⊎◌, ℤ, List, [], ◌∷◌, ◌++◌, length, get_or, take, replicate, Option}
use Rattle.std.proofs.Common.{Some, None, Result, Ok, Err, refl, sym, ap, ◌∙◌, subst, ⊎_elim, inl, inr, arith}
use Rattle.std.specs.Prelude.{slice_get}
use Rattle.std.proofs.lemmas.Bool.{cases_eq}
use Rattle.std.proofs.lemmas.List.{length-replicate, length-map, length-take-le, length_push, get_or_past, get_or-set_same}
use Rattle.std.proofs.lemmas.List.{get_or-set_other, get_or-map, get_or-replicate}
use Rattle.dbg_base.specs.declared.refusal.Refusal.{Refusal}
use Rattle.dbg_base.specs.declared.refusal.Refusal.TheVariants.{NothingToUndo, Consequence}
use Rattle.dbg_base.specs.declared.expr.Direction.{Direction}
use Rattle.dbg_base.specs.declared.expr.Direction.TheVariants as counts
use Rattle.dbg_base.specs.declared.limits.TheConstants.{EVENTS}
use Rattle.dbg_base.specs.Trees.{Action, Local, Sends, Receives, Command, Program, command_of, no_process}
use Rattle.dbg_base.specs.Evaluation.{evaluate, number_of}
use Rattle.dbg_base.specs.LocalStates.{LocalState, counts_of, no_state, start_among}
use Rattle.dbg_base.specs.Configurations.{Configuration, start_of, state_in, channel_of}
use Rattle.dbg_base.specs.Firing.{fire, Effect, effect_of, effect_by, assigned}
use Rattle.dbg_base.specs.Histories.{History, IsPossible, play}
use Rattle.dbg_base.specs.Orders.{Event, order_from, with_first, with_last, choices_of, target_of, target_in}
use Rattle.dbg_base.specs.Reversal.{MayUndo}
use Rattle.dbg_base.specs.SystemStates.{line_of, place_at, history_of, choice_before, last_choice, after_undo}
use Rattle.dbg_base.specs.Choices.{IsNeeded, last_target}
use Rattle.event_rows.specs.declared.exchange.Exchange.{Exchange}
use Rattle.event_rows.specs.declared.exchange.Exchange.TheVariants.{Nothing, Sent, Took}
use Rattle.event_rows.specs.EventValues.{EventValue}
use Rattle.dbg_laws.proofs.OrderSwapLemmas.{first_step, length-choices_of}
use Rattle.dbg_laws.proofs.Lists.{within_or_past, push_same, push_other, none_in_replicate}
use Rattle.dbg_laws.proofs.ChannelSizeLemmas.{square_play}
use Rattle.dbg_laws.proofs.UndoLemmas.{message_left}
use Rattle.dbg_laws.proofs.MessageCounts.{counts_grow}
use Rattle.dbg_laws.proofs.LineStates.{events_at, history_undo, length_cut}
use Rattle.dbg_laws.proofs.Moves.{effect_sent}
use Rattle.dbg_laws.proofs.LastChoiceLemmas.{some_left}
use Rattle.causal_world.specs.Scenes.{Scene, message_for, exchange_for, event_if, event_at, with_event, events_from, events_of, IsWorldOf}
use Rattle.causal_world.specs.Scenes.{unmade}
use Rattle.causal_world.specs.Deciding.{CanCount}
use Rattle.causal_world.specs.Worlds.{last_event, NotReceived, Received, LastExchange, Undoable}
use Rattle.causal_world.proofs.CommandEventLemmas.{done_by, makes}
use Rattle.causal_world.proofs.HistoryRecordLemmas.{events_step}
use Rattle.causal_world.proofs.WorldOfLemmas.{sized, length_events, length_with, history_without, get_last, goes_back}

-- Sizes.

pub states_there : (P : Program) (w : Scene) → IsWorldOf P w → length w.standing.states ≡ length P
states_there P w of = sized P (start_of P) w.standing of.fired of.leads ∙ length-map P (start_among (length P))

pub events_there : (P : Program) (w : Scene) → IsWorldOf P w → length w.events ≡ length P
events_there P w of =
    ap (λ (l : List (List EventValue)). length l) of.events
    ∙ length_events P (start_of P) w.standing (replicate (length P) []) of.fired of.leads
    ∙ length-replicate {A = List EventValue} (length P) []

-- One more message can be counted if one more event may be made.

none_replicated : (n q : ℕ) → ◌≡◌ {A = ℕ} (get_or (replicate n 0) q 0) 0
none_replicated n q =
    ⊎_elim
    (λ (there : q < n). get_or-replicate n q 0 0 there)
    (λ (past : n ≤ q). get_or_past (replicate n 0) q 0 (omega (arith, length-replicate {A = ℕ} n 0)))
    (within_or_past n q)

start_counts : (P : Program) (p q : ℕ) → p < length P → (direction : Direction)
    → get_or (counts_of direction (state_in (start_of P) p)) q 0 ≡ 0
start_counts P p q here direction =
    ap (λ (state : LocalState). get_or (counts_of direction state) q 0)
    (get_or-map (start_among (length P)) P p no_process no_state here) ∙ none direction
  where
    none : (direction : Direction) → get_or (counts_of direction (start_among (length P) (get_or P p no_process))) q 0 ≡ 0
    none counts.Sent = none_replicated (length P) q
    none counts.Got = none_replicated (length P) q

pub can_count : (P : Program) (w : Scene) (p : ℕ) → IsWorldOf P w → p < length P → place_at w.state p < EVENTS
    → CanCount (state_in w.standing p)
can_count P w p of here few = λ direction q.
    let choices : get_or (choices_of (length P) of.fired) p [] ≡ take (place_at w.state p) (line_of w.state p) =
    ap (λ (H : History). get_or H p []) of.history ∙ events_at P w.state of.state p here in
    omega (
      arith,
      few,
      counts_grow P (start_of P) w.standing (length P) p of.fired of.leads here direction q,
      start_counts P p q here direction,
      ap (λ (l : List ℕ). length l) choices,
      length-take-le (place_at w.state p) (line_of w.state p) (of.state.within p),
    )

-- The last of a process's events.

-- The last choice of process p is k, and its last event is the one of k at some configuration.
pub record Ended (P : Program) (p : ℕ) (choices : List ℕ) (events : List EventValue) : Type 0 where
  pub earlier : List ℕ
  pub choice : ℕ
  pub choices_are : choices ≡ earlier ++ choice ∷ []
  pub others : List EventValue
  pub event : EventValue
  pub events_are : events ≡ others ++ event ∷ []
  pub at_that : Configuration
  pub is : event_at P at_that p choice ≡ Some event

-- process p made none of these choices and no event; or it did
abbrev MayEnd : Program → ℕ → List ℕ → List EventValue → List EventValue → Type 0
MayEnd P p choices old new = ((choices ≡ []) × (new ≡ old)) ⊎ Ended P p choices new

-- one more choice of process p before the others
ends_same : (P : Program) (p k : ℕ) (c : Configuration) (event : EventValue) (choices : List ℕ) (old new : List EventValue)
    → event_at P c p k ≡ Some event → MayEnd P p choices (old ++ event ∷ []) new → MayEnd P p (k ∷ choices) old new
ends_same P p k c event choices old new is m =
    ⊎_elim
    (λ (none : (choices ≡ []) × (new ≡ old ++ event ∷ [])). inr (record {
      earlier = [];
      choice = k;
      choices_are = ap (λ (l : List ℕ). k ∷ l) none.0;
      others = old;
      event = event;
      events_are = none.1;
      at_that = c;
      is = is;
    }))
    (λ (some : Ended P p choices new). inr (record {
      earlier = k ∷ some.earlier;
      choice = some.choice;
      choices_are = ap (λ (l : List ℕ). k ∷ l) some.choices_are;
      others = some.others;
      event = some.event;
      events_are = some.events_are;
      at_that = some.at_that;
      is = some.is;
    })) m

pub may_end : (P : Program) (c d : Configuration) (n p : ℕ) (events : List (List EventValue)) (E : List Event) → order_from P c E ≡ Ok d
    → p < n → length events ≡ n
    → MayEnd P p (get_or (choices_of n E) p []) (get_or events p []) (get_or (events_from P c events E) p [])
may_end P c d n p events [] legal here size = inl (none_in_replicate n p, refl)
may_end P c d n p events (e ∷ E) legal here size =
    let step = first_step (fire P c e.process e.choice) (λ x. order_from P x E) d legal in
    let m = makes (command_of P e.process e.choice) c e.process e.choice step.0 step.1 in
    let now = with_event events e.process (event_at P c e.process e.choice) in
    let H : History = choices_of n E in
    let within : p < length H = rw (length-choices_of n E) here in
    let rest : MayEnd P p (get_or H p []) (get_or now p []) (get_or (events_from P step.0 now E) p []) =
    may_end P step.0 d n p now E step.2 here (length_with events e.process (event_at P c e.process e.choice) ∙ size) in
    let inside : p < length events = omega arith in
    let pushed : now ≡ with_event events e.process (Some m.event) = ap (with_event events e.process) m.is in
    subst (λ (l : List (List EventValue)). MayEnd P p (get_or (with_first H e.process e.choice) p []) (get_or events p []) (get_or l p []))
    (sym (events_step P c step.0 events e E step.1))
    (⊎_elim
    (λ (same : e.process ≡ p).
    let own : get_or now p [] ≡ get_or events p [] ++ m.event ∷ [] =
    ap (λ (l : List (List EventValue)). get_or l p []) (pushed ∙ ap (λ (q : ℕ). with_event events q (Some m.event)) same)
    ∙ push_same events p m.event inside in
    let choices : get_or (with_first H e.process e.choice) p [] ≡ e.choice ∷ get_or H p [] =
    ap (λ (q : ℕ). get_or (with_first H q e.choice) p []) same ∙ get_or-set_same H p (e.choice ∷ get_or H p []) [] within in
    rw choices (ends_same P p e.choice c m.event (get_or H p []) (get_or events p []) (get_or (events_from P step.0 now E) p [])
    (ap (λ (q : ℕ). event_at P c q e.choice) (sym same) ∙ m.is)
    (subst (λ (l : List EventValue). MayEnd P p (get_or H p []) l (get_or (events_from P step.0 now E) p [])) own rest)))
    (λ (apart : e.process ≢ p).
    let back : p ≢ e.process = λ x. apart (sym x) in
    let own : get_or now p [] ≡ get_or events p [] =
    ap (λ (l : List (List EventValue)). get_or l p []) pushed ∙ push_other events e.process p m.event back in
    let choices : get_or (with_first H e.process e.choice) p [] ≡ get_or H p [] =
    get_or-set_other H e.process p (e.choice ∷ get_or H e.process []) [] back in
    rw choices
    (subst (λ (l : List EventValue). MayEnd P p (get_or H p []) l (get_or (events_from P step.0 now E) p [])) own rest))
    (cases_eq e.process p))

-- the events of a process of a world
pub ends : (P : Program) (w : Scene) (p : ℕ) → IsWorldOf P w → p < length P
    → ((take (place_at w.state p) (line_of w.state p) ≡ []) × (get_or w.events p [] ≡ []))
    ⊎ Ended P p (take (place_at w.state p) (line_of w.state p)) (get_or w.events p [])
ends P w p of here =
    let none : List (List EventValue) = replicate (length P) [] in
    let choices : get_or (choices_of (length P) of.fired) p [] ≡ take (place_at w.state p) (line_of w.state p) =
    ap (λ (H : History). get_or H p []) of.history ∙ events_at P w.state of.state p here in
    let own : get_or (events_of P of.fired) p [] ≡ get_or w.events p [] =
    ap (λ (l : List (List EventValue)). get_or l p []) (sym of.events) in
    subst (λ (l : List EventValue). MayEnd P p (take (place_at w.state p) (line_of w.state p)) [] l) own
    (subst (λ (l : List ℕ). MayEnd P p l [] (get_or (events_of P of.fired) p [])) choices
    (subst (λ (l : List EventValue). MayEnd P p (get_or (choices_of (length P) of.fired) p []) l (get_or (events_of P of.fired) p []))
    (none_in_replicate (length P) p)
    (may_end P (start_of P) w.standing (length P) p none of.fired of.leads here (length-replicate {A = List EventValue} (length P) []))))

-- The target of an event is that of its command.

abbrev target_sent : Exchange → Option ℕ
target_sent Nothing = None
target_sent (Sent target value count) = Some target.0
target_sent (Took source message count) = None

target_by : (k : ℕ) (command : Command) (action : Action) (c : Configuration) (p : ℕ) (effect : Effect) → command.action ≡ action
    → effect_by action command.assignments (state_in c p) (message_for c p action) ≡ Some effect
    → target_sent (exchange_for (state_in c p) action effect.message (message_for c p action)) ≡ target_in (Some command)
target_by k command Local c p effect same is = ap (λ (a : Action). target_of a) (sym same)
target_by k command (Sends target value) c p effect same is =
    let sent = effect_sent (number_of (evaluate value (state_in c p))) (assigned command.assignments (state_in c p)) effect is in
    ap (λ (e : Effect). target_sent (exchange_for (state_in c p) (Sends target value) e.message None)) sent.2
    ∙ ap (λ (a : Action). target_of a) (sym same)
target_by k command (Receives source variable) c p effect same is =
    taken_target (message_for c p (Receives source variable)) ∙ ap (λ (a : Action). target_of a) (sym same)
  where
    taken_target : (taken : Option ℤ)
        → target_sent (exchange_for (state_in c p) (Receives source variable) effect.message taken) ≡ None
    taken_target None = refl
    taken_target (Some m) = refl

pub same_target : (c : Configuration) (p k : ℕ) (o : Option Command) (event : EventValue) → event_if c p k o ≡ Some event
    → target_sent event.exchange ≡ target_in o
same_target c p k None event is = cc
same_target c p k (Some command) event is =
    let known = done_by (effect_of command (state_in c p) (message_for c p command.action)) k command.action (state_in c p)
    (message_for c p command.action) event is in
    ap (λ (e : EventValue). target_sent e.exchange) known.2 ∙ target_by k command command.action c p known.0 refl known.1

-- Undoing.

last_none : (own : List EventValue) → slice_get own (length own - 1) ≡ None → own ≡ []
last_none [] e = refl
last_none (x ∷ []) e = absurd (let same : ◌≡◌ {A = Option EventValue} (Some x) None = e in cc)
last_none (x ∷ y ∷ own) e =
    let size : length (x ∷ y ∷ own) - 1 ≡ length (y ∷ own) = omega arith in
    absurd (last_some x (y ∷ own) (sym (ap (slice_get (x ∷ y ∷ own)) size) ∙ e))
  where
    last_some : (x : EventValue) (own : List EventValue) → slice_get (x ∷ own) (length own) ≡ None → ⊥
    last_some x [] e = cc
    last_some x (y ∷ own) e = last_some y own e

pub nothing_to_undo : (P : Program) (w : Scene) (p : ℕ) → IsWorldOf P w → last_event w p ≡ None → place_at w.state p ≡ 0
nothing_to_undo P w p of none =
    ⊎_elim
    (λ (here : p < length P). ⊎_elim
    (λ (empty : (take (place_at w.state p) (line_of w.state p) ≡ []) × (get_or w.events p [] ≡ [])).
    let size : length (take (place_at w.state p) (line_of w.state p)) ≡ 0 = ap (λ (l : List ℕ). length l) empty.0 in
    omega (arith, length-take-le (place_at w.state p) (line_of w.state p) (of.state.within p)))
    (λ (ended : Ended P p (take (place_at w.state p) (line_of w.state p)) (get_or w.events p [])).
    let size : length (get_or w.events p []) ≡ 0 = ap (λ (l : List EventValue). length l) (last_none (get_or w.events p []) none) in
    let long : length (get_or w.events p []) ≡ length (ended.others ++ ended.event ∷ []) =
    ap (λ (l : List EventValue). length l) ended.events_are in
    absurd (omega (arith, length_push ended.others ended.event)))
    (ends P w p of here))
    (λ (past : length P ≤ p). get_or_past w.state.places p 0 (omega (arith, of.state.places)))
    (within_or_past (length P) p)

-- the last event, and the choice that made it
pub record LastMade (P : Program) (w : Scene) (p : ℕ) (event : EventValue) : Type 0 where
  pub here : p < length P
  pub choice : ℕ
  pub was : last_choice w.state p ≡ Some choice
  pub at_that : Configuration
  pub is : event_at P at_that p choice ≡ Some event

choice_is : (n : ℕ) (line : List ℕ) (l : List ℕ) (k : ℕ) → n ≤ length line → take n line ≡ l ++ k ∷ [] → choice_before n line ≡ Some k
choice_is zero line l k within e = absurd (some_left l k (sym e))
choice_is (suc n) [] l k within e = absurd (omega arith)
choice_is (suc zero) (x ∷ line) [] k within e = let same : x ≡ k = cc in ap (λ (j : ℕ). Some j) same
choice_is (suc zero) (x ∷ line) (y ∷ l) k within e = absurd (some_left l k (let rest : [] ≡ l ++ k ∷ [] = cc in sym rest))
choice_is (suc (suc n)) (x ∷ line) [] k within e =
    absurd (let rest : take (suc n) line ≡ [] = cc in let size : length (take (suc n) line) ≡ 0 = ap (λ (l : List ℕ). length l) rest in
    omega (arith, length-take-le (suc n) line (omega arith)))
choice_is (suc (suc n)) (x ∷ line) (y ∷ l) k within e =
    choice_is (suc n) line l k (omega arith) (let rest : take (suc n) line ≡ l ++ k ∷ [] = cc in rest)

pub last_made : (P : Program) (w : Scene) (p : ℕ) (event : EventValue) → IsWorldOf P w → last_event w p ≡ Some event
    → LastMade P w p event
last_made P w p event of was =
    let there : p < length w.events = within w.events p event was in
    let here : p < length P = omega (arith, events_there P w of) in
    ⊎_elim
    (λ (empty : (take (place_at w.state p) (line_of w.state p) ≡ []) × (get_or w.events p [] ≡ [])).
    absurd (let none : last_event w p ≡ None = ap (λ (l : List EventValue). slice_get l (length l - 1)) empty.1 in cc))
    (λ (ended : Ended P p (take (place_at w.state p) (line_of w.state p)) (get_or w.events p [])).
    let last : last_event w p ≡ Some ended.event =
    ap (λ (l : List EventValue). slice_get l (length l - 1)) ended.events_are ∙ get_last ended.others ended.event in
    let same : ended.event ≡ event = cc in
    record {
      here = here;
      choice = ended.choice;
      was = choice_is (place_at w.state p) (line_of w.state p) ended.earlier ended.choice (of.state.within p) ended.choices_are;
      at_that = ended.at_that;
      is = ended.is ∙ ap (λ (e : EventValue). Some e) same;
    })
    (ends P w p of here)
  where
    within : (events : List (List EventValue)) (p : ℕ) (event : EventValue)
        → slice_get (get_or events p []) (length (get_or events p []) - 1) ≡ Some event → p < length events
    within [] p event e = cc
    within (own ∷ events) zero event e = omega arith
    within (own ∷ events) (suc p) event e = let t : p < length events = within events p event e in omega arith

-- its message was received
pub needed : (P : Program) (w : Scene) (p t : ℕ) (event : EventValue) → IsWorldOf P w → last_event w p ≡ Some event
    → target_sent event.exchange ≡ Some t → t < length (get_or w.standing.channels p []) → length (channel_of w.standing p t) ≡ 0
    → IsNeeded P w.state p t
needed P w p t event of was target inside empty =
    let made = last_made P w p event of was in
    let k = made.choice in
    let M = w.state in
    let B : History = history_of (after_undo M p) in
    let whole : history_of M ≡ with_last B p k = history_undo P M of.state p made.here k made.was in
    let lines : length B ≡ length P = length_cut (after_undo M p).lines (after_undo M p).places ∙ of.state.lines in
    let square = square_play P (history_of M) of.possible in
    let there : t < length P =
    omega (arith, inside, ap (λ (c : Configuration). length (get_or c.channels p [])) of.standing, square.columns p made.here) in
    let to : target_in (command_of P p k) ≡ Some t =
    sym (same_target made.at_that p k (command_of P p k) event made.is) ∙ target in
    record {
      some = place_some (place_at M p) (line_of M p) k made.was;
      impossible = λ possible.
          let shorter : IsPossible P B = subst (IsPossible P) (sym (history_without P M p of.state made.here)) possible in
          let left = message_left P B p k t (omega (arith, made.here)) shorter (subst (IsPossible P) whole of.possible) to there in
          let same : length (channel_of (play P (with_last B p k)) p t) ≡ length (channel_of w.standing p t) =
          ap (λ (c : Configuration). length (channel_of c p t)) (sym (of.standing ∙ ap (play P) whole)) in
          absurd (omega (arith, left, same));
      receiver = ap (last_target P M p) made.was ∙ to;
    }
  where
    place_some : (n : ℕ) (line : List ℕ) (k : ℕ) → choice_before n line ≡ Some k → 0 < n
    place_some zero line k e = cc
    place_some (suc n) line k e = omega arith

needed_by : (P : Program) (w : Scene) (p q : ℕ) (event : EventValue) (exchange : Exchange) → IsWorldOf P w
    → last_event w p ≡ Some event → event.exchange ≡ exchange → Received w.standing.channels p exchange q → IsNeeded P w.state p q
needed_by P w p q event Nothing of was same received = absurd received
needed_by P w p q event (Sent target value count) of was same received =
    needed P w p q event of was (ap target_sent same ∙ ap (λ (t : ℕ). Some t) received.0) received.2 received.3
needed_by P w p q event (Took source message count) of was same received = absurd received

pub received_needed : (P : Program) (w : Scene) (p q : ℕ) (event : EventValue) → IsWorldOf P w → last_event w p ≡ Some event
    → Received w.standing.channels p event.exchange q → IsNeeded P w.state p q
received_needed P w p q event of was received = needed_by P w p q event event.exchange of was refl received

-- its message is still on its way, or it sent none
pub can_go_back : (P : Program) (w : Scene) (p : ℕ) (event : EventValue) → IsWorldOf P w → last_event w p ≡ Some event
    → NotReceived w.standing.channels p event.exchange → MayUndo P (history_of w.state) p × IsWorldOf P (unmade w p event)
can_go_back P w p event of was waiting =
    let made = last_made P w p event of was in
    let k = made.choice in
    let square = square_play P (history_of w.state) of.possible in
    let back = goes_back P w p k of made.here made.was (λ t to apart there.
    still event.exchange t (same_target made.at_that p k (command_of P p k) event made.is ∙ to) waiting
    (omega (arith, made.here, ap (λ (c : Configuration). length c.channels) of.standing, square.rows))
    (omega (arith, there, ap (λ (c : Configuration). length (get_or c.channels p [])) of.standing, square.columns p made.here))) in
    let back_was = back.was in
    let same : back.event ≡ event = cc in
    (back.may, subst (λ (e : EventValue). IsWorldOf P (unmade w p e)) same back.of)
  where
    still : (exchange : Exchange) (t : ℕ) → target_sent exchange ≡ Some t → NotReceived w.standing.channels p exchange
        → p < length w.standing.channels → t < length (get_or w.standing.channels p []) → 0 < length (channel_of w.standing p t)
    still Nothing t e n i j = cc
    still (Sent target value count) t e n i j =
        let same : target.0 ≡ t = cc in
        subst (λ (x : ℕ). x < length (get_or w.standing.channels p []) → 0 < length (channel_of w.standing p x)) same (n i) j
    still (Took source message count) t e n i j = cc

-- by the exchange of the last event
pub undoable_by : (w : Scene) (p : ℕ) (r : Result Exchange Refusal) → LastExchange w.events w.standing.channels p r → Undoable w p r
undoable_by w p (Ok exchange) last = record {
  event = last.0;
  was = last.1;
  exchanged = last.2;
  may = λ P of. can_go_back P w p last.0 of last.1 (subst (NotReceived w.standing.channels p) (sym last.2) last.3);
}
undoable_by w p (Err NothingToUndo) last = λ P of. nothing_to_undo P w p of last
undoable_by w p (Err (Consequence q)) last = λ P of. received_needed P w p q.0 last.0 of last.1 last.2
undoable_by w p (Err refusal) last = absurd last
