-- What a command would do is decided before anything changes. The commands of a process are tried one after the other. A command that fires
-- makes an event, and leads where that event leads.
use Rattle.std.proofs.Common.{◌≡◌, ℕ, zero, suc, ◌+◌, ◌<◌, List, [], ◌∷◌, length, drop, Option, Some, Result, Ok, Err, refl, sym, ap, ◌∙◌}
use Rattle.std.proofs.Common.{add-one, arith, ℤ, ◌++◌, set, None, subst}
use Rattle.std.specs.Prelude.{slice_get, IfOk}
use Rattle.std.specs.Option.{option_map}
use Rattle.dbg_base.specs.Trees.{Program, Command, process_of, Tree, Action, Local, Sends, Receives}
use Rattle.dbg_base.specs.Configurations.{Configuration, state_in, channel_of, with_channel}
use Rattle.dbg_base.specs.Firing.{fire_command, fire_if, fire, truth_of, Effect, assigned, with_set, effect_by, effect_of, after_effect}
use Rattle.dbg_base.specs.Firing.{complete, receive, proceed, counted}
use Rattle.dbg_base.specs.Choices.{fires_first, lowest_from, lowest_enabled}
use Rattle.dbg_base.specs.declared.refusal.Refusal.{Refusal}
use Rattle.dbg_base.specs.declared.refusal.Refusal.TheVariants.{Fault}
use Rattle.dbg_base.specs.Evaluation.{evaluate, number_of}
use Rattle.dbg_base.specs.LocalStates.{LocalState}
use Rattle.event_rows.specs.EventValues.{EventValue}
use Rattle.event_rows.specs.Settings.{new_values, settings_of}
use Rattle.event_rows.proofs.UndoneEventLemmas.{new_values_of}
use Rattle.dbg_laws.proofs.Moves.{guard_true, completed, effect_sent}
use Rattle.causal_world.specs.Deciding.{TakesPrefix, Takes, MakesEvent, DecidesBy, Decides}
use Rattle.causal_world.specs.Scenes.{message_for, exchange_for, event_by, event_of, event_if, with_done}

-- Commands that are tried one after the other.

drop_there : {A : Type 0} (xs : List A) (k : ℕ) → k < length xs → (x : A) × (slice_get xs k ≡ Some x) × (drop k xs ≡ x ∷ drop (suc k) xs)
drop_there [] k lt = absurd (omega arith)
drop_there (x ∷ xs) zero lt = (x, refl, refl)
drop_there (x ∷ xs) (suc k) lt = drop_there xs k (omega arith)

-- the commands from the k-th on begin with the k-th
lowest_next : (P : Program) (c : Configuration) (p k : ℕ) → k < length (process_of P p).commands
    → lowest_from k (drop k (process_of P p).commands) c p
    ≡ fires_first (fire P c p k) k (lowest_from (k + 1) (drop (k + 1) (process_of P p).commands) c p)
lowest_next P c p k lt =
    let there = drop_there (process_of P p).commands k lt in
    let fired : fire P c p k ≡ fire_command there.0 c p = ap (λ (o : Option Command). fire_if o c p) there.1 in
    ap (λ (xs : List Command). lowest_from k xs c p) there.2
    ∙ ap (λ (r : Result Configuration Refusal). fires_first r k (lowest_from (k + 1) (drop (suc k) (process_of P p).commands) c p))
    (sym fired)
    ∙ ap (λ (n : ℕ). fires_first (fire P c p k) k (lowest_from (k + 1) (drop n (process_of P p).commands) c p)) (sym (add-one k))

-- no command before the k-th fires
abbrev pub NoneBefore : Program → Configuration → ℕ → ℕ → Type 0
NoneBefore P c p k = lowest_from k (drop k (process_of P p).commands) c p ≡ lowest_enabled P c p

-- the k-th fires
pub first_is : (P : Program) (c d : Configuration) (p k : ℕ) → k < length (process_of P p).commands → NoneBefore P c p k
    → fire P c p k ≡ Ok d → lowest_enabled P c p ≡ Some k
first_is P c d p k lt before fires =
    sym before ∙ lowest_next P c p k lt
    ∙ ap (λ (r : Result Configuration Refusal). fires_first r k (lowest_from (k + 1) (drop (k + 1) (process_of P p).commands) c p)) fires

-- nor does the k-th
pub passes_next : (P : Program) (c : Configuration) (p k : ℕ) (refusal : Refusal) → k < length (process_of P p).commands
    → NoneBefore P c p k → fire P c p k ≡ Err refusal → NoneBefore P c p (k + 1)
passes_next P c p k refusal lt before fires =
    sym (lowest_next P c p k lt
    ∙ ap (λ (r : Result Configuration Refusal). fires_first r k (lowest_from (k + 1) (drop (k + 1) (process_of P p).commands) c p)) fires)
    ∙ before

-- A command that fires makes an event, and leads where that event leads.

-- An effect leads where its event leads.

abbrev state_after : LocalState → Action → List (ℕ × ℤ) → LocalState
state_after state action sets = counted action (with_set state sets)

local_done : (c : Configuration) (p k : ℕ) (effect : Effect)
    → after_effect c p Local effect ≡ with_done c p (event_by k Local (state_in c p) None effect)
local_done c p k effect =
    ap (λ (sets : List (ℕ × ℤ)). record { states = set c.states p (state_after (state_in c p) Local sets); channels = c.channels })
    (sym (new_values_of (state_in c p).values effect.sets))

sent_done : (c : Configuration) (p k target : ℕ) (value : Tree) (sets : List (ℕ × ℤ)) (z : ℤ)
    → after_effect c p (Sends target value) (record { sets = sets; message = Some z })
    ≡ with_done c p (event_by k (Sends target value) (state_in c p) None (record { sets = sets; message = Some z }))
sent_done c p k target value sets z =
    ap (λ (known : List (ℕ × ℤ)). record {
      states = set c.states p (state_after (state_in c p) (Sends target value) known);
      channels = (with_channel c p target (channel_of c p target ++ z ∷ [])).channels;
    })
    (sym (new_values_of (state_in c p).values sets))

-- with the head of its channel received
taken_done : (c : Configuration) (p k source variable : ℕ) (m : ℤ) (rest : List ℤ) (effect : Effect) → channel_of c source p ≡ m ∷ rest
    → after_effect (with_channel c source p rest) p (Receives source variable) effect
    ≡ with_done c p (event_by k (Receives source variable) (state_in c p) (message_for c p (Receives source variable)) effect)
taken_done c p k source variable m rest effect prefix =
    let state = state_in c p in
    let action : Action = Receives source variable in
    let known = new_values (settings_of state.values effect.sets) in
    let taking : List ℤ → Configuration =
    λ messages. with_done c p (record {
      choice = k;
      settings = settings_of state.values effect.sets;
      exchange = exchange_for state action effect.message (slice_get messages 0);
    }) in
    ap (λ (sets : List (ℕ × ℤ)). record {
      states = set c.states p (state_after state action sets);
      channels = (with_channel c source p rest).channels;
    }) (sym (new_values_of state.values effect.sets))
    ∙ ap (λ (messages : List ℤ). record {
      states = set c.states p (state_after state action known);
      channels = (with_channel c source p (drop 1 messages)).channels;
    }) (sym prefix)
    ∙ ap taking (sym prefix)

-- Process p makes this event at c, which leads to d.
pub record Makes (o : Option Command) (c : Configuration) (p k : ℕ) (d : Configuration) : Type 0 where
  pub event : EventValue
  pub is : event_if c p k o ≡ Some event
  pub leads : d ≡ with_done c p event

-- the event of a command whose effect is known
pub effect_done : (command : Command) (action : Action) (c : Configuration) (p k : ℕ) (effect : Effect) → command.action ≡ action
    → effect_by action command.assignments (state_in c p) (message_for c p action) ≡ Some effect
    → event_if c p k (Some command) ≡ Some (event_by k action (state_in c p) (message_for c p action) effect)
effect_done command action c p k effect same e =
    ap (λ (a : Action). option_map (event_by k a (state_in c p) (message_for c p a))
    (effect_by a command.assignments (state_in c p) (message_for c p a))) same
    ∙ ap (option_map (event_by k action (state_in c p) (message_for c p action))) e

received : (command : Command) (source variable : ℕ) (c : Configuration) (p k : ℕ) (d : Configuration) (messages : List ℤ)
    → command.action ≡ Receives source variable → channel_of c source p ≡ messages → receive command c p source messages ≡ Ok d
    → Makes (Some command) c p k d
received command source variable c p k d [] same prefix e = cc
received command source variable c p k d (m ∷ rest) same prefix e =
    let done = completed (with_channel c source p rest) p command.action (effect_of command (state_in c p) (Some m)) d e in
    let effect = done.0 in
    let action : Action = Receives source variable in
    let taken : message_for c p action ≡ Some m = ap (λ (messages : List ℤ). slice_get messages 0) prefix in
    record {
      event = event_by k action (state_in c p) (message_for c p action) effect;
      is = effect_done command action c p k effect same
          (ap (effect_by action command.assignments (state_in c p)) taken
          ∙ ap (λ (a : Action). effect_by a command.assignments (state_in c p) (Some m)) (sym same) ∙ done.1);
      leads = done.2 ∙ ap (λ (a : Action). after_effect (with_channel c source p rest) p a effect) same
          ∙ taken_done c p k source variable m rest effect prefix;
    }

proceeds : (command : Command) (action : Action) (c : Configuration) (p k : ℕ) (d : Configuration) → command.action ≡ action
    → proceed command action c p ≡ Ok d → Makes (Some command) c p k d
proceeds command Local c p k d same e =
    let done = completed c p Local (effect_of command (state_in c p) None) d e in
    record {
      event = event_by k Local (state_in c p) None done.0;
      is = effect_done command Local c p k done.0 same
          (ap (λ (a : Action). effect_by a command.assignments (state_in c p) None) (sym same) ∙ done.1);
      leads = done.2 ∙ local_done c p k done.0;
    }
proceeds command (Sends target value) c p k d same e =
    let action : Action = Sends target value in
    let done = completed c p action (effect_of command (state_in c p) None) d e in
    let known : effect_by action command.assignments (state_in c p) None ≡ Some done.0 =
    ap (λ (a : Action). effect_by a command.assignments (state_in c p) None) (sym same) ∙ done.1 in
    let sent = effect_sent (number_of (evaluate value (state_in c p))) (assigned command.assignments (state_in c p)) done.0 known in
    record {
      event = event_by k action (state_in c p) None done.0;
      is = effect_done command action c p k done.0 same known;
      leads = done.2 ∙ ap (after_effect c p action) sent.2 ∙ sent_done c p k target value sent.0 sent.1
          ∙ ap (λ (effect : Effect). with_done c p (event_by k action (state_in c p) None effect)) (sym sent.2);
    }
proceeds command (Receives source variable) c p k d same e =
    received command source variable c p k d (channel_of c source p) same refl e

pub makes : (o : Option Command) (c : Configuration) (p k : ℕ) (d : Configuration) → fire_if o c p ≡ Ok d → Makes o c p k d
makes None c p k d e = cc
makes (Some command) c p k d e =
    let open_ = guard_true (truth_of (evaluate command.guard (state_in c p))) (proceed command command.action c p) d e in
    proceeds command command.action c p k d refl open_.1

-- Conversely, if a command's event is known, the command leads where it leads.

pub done_by : (o : Option Effect) (k : ℕ) (action : Action) (state : LocalState) (taken : Option ℤ) (event : EventValue)
    → option_map (event_by k action state taken) o ≡ Some event
    → (effect : Effect) × (o ≡ Some effect) × (event ≡ event_by k action state taken effect)
done_by None k action state taken event e = cc
done_by (Some effect) k action state taken event e = (effect, refl, cc)

abbrev Leads : Command → Action → Configuration → ℕ → ℕ → EventValue → Type 0
Leads command action c p k event =
    (event_if c p k (Some command) ≡ Some event) × (proceed command action c p ≡ Ok (with_done c p event))

received_by : (command : Command) (source variable : ℕ) (c : Configuration) (p k : ℕ) (effect : Effect) (messages : List ℤ)
    → command.action ≡ Receives source variable → channel_of c source p ≡ messages
    → effect_by (Receives source variable) command.assignments (state_in c p) (slice_get messages 0) ≡ Some effect
    → TakesPrefix (Ok (slice_get messages 0)) (slice_get messages 0)
    → receive command c p source messages
    ≡ Ok (with_done c p (event_by k (Receives source variable) (state_in c p) (slice_get messages 0) effect))
received_by command source variable c p k effect [] same prefix e takes = cc
received_by command source variable c p k effect (m ∷ rest) same prefix e takes =
    let action : Action = Receives source variable in
    ap (complete (with_channel c source p rest) p command.action)
    (ap (λ (a : Action). effect_by a command.assignments (state_in c p) (Some m)) same ∙ e)
    ∙ ap (λ (a : Action). Ok (after_effect (with_channel c source p rest) p a effect)) same
    ∙ ap (λ (d : Configuration). Ok d) (taken_done c p k source variable m rest effect prefix)
    ∙ ap (λ (messages : List ℤ). Ok (with_done c p (event_by k action (state_in c p) (slice_get messages 0) effect))) prefix

leads_by : (command : Command) (action : Action) (c : Configuration) (p k : ℕ) (effect : Effect) → command.action ≡ action
    → effect_by action command.assignments (state_in c p) (message_for c p action) ≡ Some effect
    → Takes (Ok (message_for c p action)) action c p
    → Leads command action c p k (event_by k action (state_in c p) (message_for c p action) effect)
leads_by command Local c p k effect same e takes = (
  effect_done command Local c p k effect same e,
  ap (complete c p Local) (ap (λ (a : Action). effect_by a command.assignments (state_in c p) None) same ∙ e)
      ∙ ap (λ (d : Configuration). Ok d) (local_done c p k effect),
)
leads_by command (Sends target value) c p k effect same e takes =
    let action : Action = Sends target value in
    let sent = effect_sent (number_of (evaluate value (state_in c p))) (assigned command.assignments (state_in c p)) effect e in (
      effect_done command action c p k effect same e,
      ap (complete c p action) (ap (λ (a : Action). effect_by a command.assignments (state_in c p) None) same ∙ e)
          ∙ ap (λ (d : Configuration). Ok d) (ap (after_effect c p action) sent.2 ∙ sent_done c p k target value sent.0 sent.1
          ∙ ap (λ (known : Effect). with_done c p (event_by k action (state_in c p) None known)) (sym sent.2)),
    )
leads_by command (Receives source variable) c p k effect same e takes = (
  effect_done command (Receives source variable) c p k effect same e,
  received_by command source variable c p k effect (channel_of c source p) same refl e takes,
)

prefix_taken : (taken first : Option ℤ) → TakesPrefix (Ok taken) first → taken ≡ first
prefix_taken taken None takes = cc
prefix_taken taken (Some m) takes = cc

takes_is : (action : Action) (c : Configuration) (p : ℕ) (taken : Option ℤ) → Takes (Ok taken) action c p → taken ≡ message_for c p action
takes_is Local c p taken takes = cc
takes_is (Sends target value) c p taken takes = cc
takes_is (Receives source variable) c p taken takes = prefix_taken taken (slice_get (channel_of c source p) 0) takes

-- a command whose event is known fires, and leads where the event leads
pub decided : (command : Command) (c : Configuration) (p k : ℕ) (taken : Option ℤ) (event : EventValue)
    → Takes (Ok taken) command.action c p → event_of k command (state_in c p) taken ≡ Some event
    → Leads command command.action c p k event
decided command c p k taken event takes e =
    let same : taken ≡ message_for c p command.action = takes_is command.action c p taken takes in
    let known = done_by (effect_of command (state_in c p) taken) k command.action (state_in c p) taken event e in
    let effect : effect_by command.action command.assignments (state_in c p) (message_for c p command.action) ≡ Some known.0 =
    ap (effect_of command (state_in c p)) (sym same) ∙ known.1 in
    let leads =
    leads_by command command.action c p k known.0 refl effect (subst (λ (t : Option ℤ). Takes (Ok t) command.action c p) same takes) in
    subst (λ (v : EventValue). Leads command command.action c p k v)
    (ap (λ (t : Option ℤ). event_by k command.action (state_in c p) t known.0) (sym same) ∙ sym known.2) leads

-- an evaluation faults

received_fault : (command : Command) (source variable : ℕ) (c : Configuration) (p : ℕ) (messages : List ℤ)
    → command.action ≡ Receives source variable
    → effect_by (Receives source variable) command.assignments (state_in c p) (slice_get messages 0) ≡ None
    → TakesPrefix (Ok (slice_get messages 0)) (slice_get messages 0) → receive command c p source messages ≡ Err Fault
received_fault command source variable c p [] same e takes = cc
received_fault command source variable c p (m ∷ rest) same e takes =
    ap (complete (with_channel c source p rest) p command.action)
    (ap (λ (a : Action). effect_by a command.assignments (state_in c p) (Some m)) same ∙ e)

fault_by : (command : Command) (action : Action) (c : Configuration) (p : ℕ) → command.action ≡ action
    → effect_by action command.assignments (state_in c p) (message_for c p action) ≡ None
    → Takes (Ok (message_for c p action)) action c p → proceed command action c p ≡ Err Fault
fault_by command Local c p same e takes =
    ap (complete c p Local) (ap (λ (a : Action). effect_by a command.assignments (state_in c p) None) same ∙ e)
fault_by command (Sends target value) c p same e takes =
    ap (complete c p (Sends target value)) (ap (λ (a : Action). effect_by a command.assignments (state_in c p) None) same ∙ e)
fault_by command (Receives source variable) c p same e takes =
    received_fault command source variable c p (channel_of c source p) same e takes

pub faulted : (command : Command) (c : Configuration) (p : ℕ) (taken : Option ℤ) → Takes (Ok taken) command.action c p
    → effect_of command (state_in c p) taken ≡ None → proceed command command.action c p ≡ Err Fault
faulted command c p taken takes e =
    let same : taken ≡ message_for c p command.action = takes_is command.action c p taken takes in
    fault_by command command.action c p refl (ap (effect_of command (state_in c p)) (sym same) ∙ e)
    (subst (λ (t : Option ℤ). Takes (Ok t) command.action c p) same takes)

decides_by : (found : Result EventValue Refusal) (command : Command) (c : Configuration) (p k : ℕ) (taken : Option ℤ)
    → Takes (Ok taken) command.action c p → MakesEvent found k command (state_in c p) taken
    → DecidesBy found (event_if c p k (Some command)) (proceed command command.action c p) c p
decides_by (Ok event) command c p k taken takes is = decided command c p k taken event takes is
decides_by (Err refusal) command c p k taken takes is =
    faulted command c p taken takes is.1 ∙ ap (λ (r : Refusal). Err r) (sym is.0)

-- what is decided about a command with this received message in this local state of its process
pub decides : {E : Type 0} (result : Result (Result EventValue Refusal) E) (command : Command) (c : Configuration) (p k : ℕ)
    (taken : Option ℤ) (state : LocalState) → state ≡ state_in c p → Takes (Ok taken) command.action c p
    → IfOk result (λ found. MakesEvent found k command state taken)
    → Decides result (event_if c p k (Some command)) (proceed command command.action c p) c p
decides (Ok found) command c p k taken state same takes is =
    decides_by found command c p k taken takes (subst (λ (s : LocalState). MakesEvent found k command s taken) same is)
decides (Err e) command c p k taken state same takes is = tt
