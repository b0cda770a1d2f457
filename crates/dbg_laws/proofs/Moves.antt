-- What a command that fires reads and writes: the local state of its process, and at most one channel. So two processes that can both fire
-- can fire in either order, with the same result.
use Rattle.std.proofs.Common.{◌≡◌, ℕ, ℤ, List, [], ◌∷◌, ◌++◌, set, drop, Bool, true, false, Option, Some, None, Result, Ok, refl, sym, ap}
use Rattle.std.proofs.Common.{◌∙◌, ◌≢◌, subst, ⊎_elim}
use Rattle.std.proofs.lemmas.Bool.{cases_eq}
use Rattle.std.proofs.lemmas.List.{set_comm, get_or-set_other}
use Rattle.dbg_base.specs.declared.refusal.Refusal.{Refusal}
use Rattle.dbg_base.specs.Trees.{Tree, Action, Local, Sends, Receives, Command, Program, command_of}
use Rattle.dbg_base.specs.Evaluation.{evaluate, number_of}
use Rattle.dbg_base.specs.LocalStates.{LocalState, one_more, no_state}
use Rattle.dbg_base.specs.Configurations.{Configuration, state_in, channel_of, with_channel, with_state}
use Rattle.dbg_base.specs.Firing.{truth_of, Effect, effect_with, sending, assigned, with_set, effect_by, effect_of, counted, deliver}
use Rattle.dbg_base.specs.Firing.{advanced, after_effect, complete, receive, proceed, where_true, fire_if, fire}
use Rattle.dbg_base.specs.Orders.{target_of, target_in, source_of, source_in}
use Rattle.dbg_laws.proofs.Lists.{Grid, cell, change, row_within, cell_within, cell-put_other, cell-put_same, changes_swap, change_twice}
use Rattle.dbg_laws.proofs.Lists.{put}

-- what happens to the channels
pub data Move : Type 0 where
  Keeps : Move
  Puts : (target : ℕ) (value : ℤ) → Move
  Takes : (source : ℕ) (message : ℤ) → Move

abbrev pub channels_after : Move → ℕ → Grid → Grid
channels_after Keeps p g = g
channels_after (Puts target value) p g = change g p target (λ messages. messages ++ value ∷ [])
channels_after (Takes source message) p g = change g source p (drop 1)

abbrev pub IsReady : Move → ℕ → Grid → Type 0
IsReady Keeps p g = Unit {0}
IsReady (Puts target value) p g = Unit {0}
IsReady (Takes source message) p g = (rest : List ℤ) × (cell g source p ≡ message ∷ rest)

abbrev pub move_target : Move → Option ℕ
move_target Keeps = None
move_target (Puts target value) = Some target
move_target (Takes source message) = None

-- the counts of sent and received messages after the move
abbrev pub sent_after : Move → List ℕ → List ℕ
sent_after Keeps counts = counts
sent_after (Puts target value) counts = one_more counts target
sent_after (Takes source message) counts = counts

abbrev pub got_after : Move → List ℕ → List ℕ
got_after Keeps counts = counts
got_after (Puts target value) counts = counts
got_after (Takes source message) counts = one_more counts source

abbrev pub move_source : Move → Option ℕ
move_source Keeps = None
move_source (Puts target value) = None
move_source (Takes source message) = Some source

-- process p has this local state, and has made this move
abbrev pub after_move : Move → ℕ → LocalState → Configuration → Configuration
after_move move p state c = record { states = set c.states p state; channels = channels_after move p c.channels }

-- What leads process p from c to d: it has these targets and sources, and makes one move. From each configuration with the same local state
-- of the process, and with the message that it takes at the head, the same move leads to the same local state.
pub record Leads (sent_to received_from : Option ℕ) (does : Configuration → Result Configuration Refusal) (c : Configuration) (p : ℕ)
    (d : Configuration) : Type 0 where
  pub move : Move
  pub state : LocalState
  pub sends : sent_to ≡ move_target move
  pub receives : received_from ≡ move_source move
  pub sent : state.sent ≡ sent_after move (state_in c p).sent
  pub got : state.got ≡ got_after move (state_in c p).got
  pub ready : IsReady move p c.channels
  pub leads : d ≡ after_move move p state c
  pub again : (b : Configuration) → state_in b p ≡ state_in c p → IsReady move p b.channels → does b ≡ Ok (after_move move p state b)

-- process p fired this command at c, which led to d
abbrev pub Fires : Option Command → Configuration → ℕ → Configuration → Type 0
Fires o c p d = Leads (target_in o) (source_in o) (λ b. fire_if o b p) c p d

-- the same after the guard
abbrev Proceeds : Command → Action → Configuration → ℕ → Configuration → Type 0
Proceeds command action c p d = Leads (target_of action) (source_of action) (λ b. proceed command action b p) c p d

abbrev pub Reached : Type 0
Reached = Result Configuration Refusal

pub guard_true : (t : Option Bool) (r : Reached) (d : Configuration) → where_true t r ≡ Ok d → (t ≡ Some true) × (r ≡ Ok d)
guard_true None r d e = cc
guard_true (Some false) r d e = cc
guard_true (Some true) r d e = (refl, e)

passes : (t : Option Bool) (r : Reached) (d : Configuration) → t ≡ Some true → r ≡ Ok d → where_true t r ≡ Ok d
passes t r d holds e = ap (λ (o : Option Bool). where_true o r) holds ∙ e

pub completed : (c : Configuration) (p : ℕ) (action : Action) (o : Option Effect) (d : Configuration) → complete c p action o ≡ Ok d
    → (effect : Effect) × (o ≡ Some effect) × (d ≡ after_effect c p action effect)
completed c p action None d e = cc
completed c p action (Some effect) d e = (effect, refl, cc)

-- a local command
local_effect : (b : Configuration) (p : ℕ) (effect : Effect) (state : LocalState)
    → counted Local (with_set (state_in b p) effect.sets) ≡ state → after_effect b p Local effect ≡ after_move Keeps p state b
local_effect b p effect state e = ap (λ (s : LocalState). after_move Keeps p s b) e

-- a command that sends
with_message : (z : ℤ) (sets : Option (List (ℕ × ℤ))) (effect : Effect) → effect_with [] (Some z) sets ≡ Some effect
    → (known : List (ℕ × ℤ)) × (effect ≡ record { sets = known; message = Some z })
with_message z None effect e = cc
with_message z (Some sets) effect e = (sets, cc)

-- what its effect sends
pub effect_sent : (o : Option ℤ) (sets : Option (List (ℕ × ℤ))) (effect : Effect)
    → sending o (λ z. effect_with [] (Some z) sets) ≡ Some effect
    → (known : List (ℕ × ℤ)) × (z : ℤ) × (effect ≡ record { sets = known; message = Some z })
effect_sent None sets effect e = cc
effect_sent (Some z) sets effect e = let w = with_message z sets effect e in (w.0, z, w.1)

sent_by : (command : Command) (target : ℕ) (value : Tree) (state : LocalState) (effect : Effect) → command.action ≡ Sends target value
    → effect_of command state None ≡ Some effect → (z : ℤ) × (effect.message ≡ Some z)
sent_by command target value state effect same e =
    let known = effect_sent (number_of (evaluate value state)) (assigned command.assignments state) effect
    (ap (λ (action : Action). effect_by action command.assignments state None) (sym same) ∙ e) in
    (known.1, ap (λ (x : Effect). x.message) known.2)

sent_effect : (b : Configuration) (p target : ℕ) (value : Tree) (effect : Effect) (z : ℤ) (state : LocalState) → effect.message ≡ Some z
    → counted (Sends target value) (with_set (state_in b p) effect.sets) ≡ state
    → after_effect b p (Sends target value) effect ≡ after_move (Puts target z) p state b
sent_effect b p target value effect z state message e =
    ap (deliver (advanced b p (Sends target value) effect.sets) p target) message
    ∙ ap (λ (s : LocalState). after_move (Puts target z) p s b) e

-- a command that receives
taken_effect : (b : Configuration) (p source variable : ℕ) (m : ℤ) (rest : List ℤ) (effect : Effect) (state : LocalState)
    → cell b.channels source p ≡ m ∷ rest → counted (Receives source variable) (with_set (state_in b p) effect.sets) ≡ state
    → after_effect (with_channel b source p rest) p (Receives source variable) effect ≡ after_move (Takes source m) p state b
taken_effect b p source variable m rest effect state prefix e =
    ap (λ (s : LocalState). with_state (with_channel b source p rest) p s) e
    ∙ ap (λ (messages : List ℤ). with_state (with_channel b source p (drop 1 messages)) p state) (sym prefix)

-- the effect depends only on the local state
effect_again : (command : Command) (b c : Configuration) (p : ℕ) (message : Option ℤ) (effect : Effect) → state_in b p ≡ state_in c p
    → effect_of command (state_in c p) message ≡ Some effect → effect_of command (state_in b p) message ≡ Some effect
effect_again command b c p message effect same e = ap (λ (s : LocalState). effect_of command s message) same ∙ e

counted_again : (action : Action) (b c : Configuration) (p : ℕ) (effect : Effect) → state_in b p ≡ state_in c p
    → counted action (with_set (state_in b p) effect.sets) ≡ counted action (with_set (state_in c p) effect.sets)
counted_again action b c p effect same = ap (λ (s : LocalState). counted action (with_set s effect.sets)) same

receives_prefix : (command : Command) (b : Configuration) (p source variable : ℕ) (m : ℤ) (rest : List ℤ) (effect : Effect)
    → command.action ≡ Receives source variable → cell b.channels source p ≡ m ∷ rest
    → effect_of command (state_in b p) (Some m) ≡ Some effect
    → proceed command (Receives source variable) b p
    ≡ Ok (after_effect (with_channel b source p rest) p (Receives source variable) effect)
receives_prefix command b p source variable m rest effect same prefix e =
    ap (receive command b p source) prefix
    ∙ ap (complete (with_channel b source p rest) p command.action) e
    ∙ ap (λ (action : Action). complete (with_channel b source p rest) p action (Some effect)) same

received : (command : Command) (source variable : ℕ) (c : Configuration) (p : ℕ) (d : Configuration) (messages : List ℤ)
    → command.action ≡ Receives source variable → cell c.channels source p ≡ messages → receive command c p source messages ≡ Ok d
    → Proceeds command (Receives source variable) c p d
received command source variable c p d [] same prefix e = cc
received command source variable c p d (m ∷ rest) same prefix e =
    let done = completed (with_channel c source p rest) p command.action (effect_of command (state_in c p) (Some m)) d e in
    let effect = done.0 in
    let state = counted (Receives source variable) (with_set (state_in c p) effect.sets) in
    record {
      move = Takes source m;
      state = state;
      sends = refl;
      receives = refl;
      sent = refl;
      got = refl;
      ready = (rest, prefix);
      leads = done.2
          ∙ ap (λ (action : Action). after_effect (with_channel c source p rest) p action effect) same
          ∙ taken_effect c p source variable m rest effect state prefix refl;
      again = λ b there ready.
          receives_prefix command b p source variable m ready.0 effect same ready.1 (effect_again command b c p (Some m) effect there done.1)
          ∙ ap (λ (x : Configuration). Ok x) (taken_effect b p source variable m ready.0 effect state ready.1
          (counted_again (Receives source variable) b c p effect there));
    }

proceeds : (command : Command) (action : Action) (c : Configuration) (p : ℕ) (d : Configuration) → command.action ≡ action
    → proceed command action c p ≡ Ok d → Proceeds command action c p d
proceeds command Local c p d same e =
    let done = completed c p Local (effect_of command (state_in c p) None) d e in
    let effect = done.0 in
    let state = counted Local (with_set (state_in c p) effect.sets) in
    record {
      move = Keeps;
      state = state;
      sends = refl;
      receives = refl;
      sent = refl;
      got = refl;
      ready = tt;
      leads = done.2;
      again = λ b there ready.
          ap (complete b p Local) (effect_again command b c p None effect there done.1)
          ∙ ap (λ (x : Configuration). Ok x) (local_effect b p effect state (counted_again Local b c p effect there));
    }
proceeds command (Sends target value) c p d same e =
    let done = completed c p (Sends target value) (effect_of command (state_in c p) None) d e in
    let effect = done.0 in
    let state = counted (Sends target value) (with_set (state_in c p) effect.sets) in
    let sent = sent_by command target value (state_in c p) effect same done.1 in
    record {
      move = Puts target sent.0;
      state = state;
      sends = refl;
      receives = refl;
      sent = refl;
      got = refl;
      ready = tt;
      leads = done.2 ∙ sent_effect c p target value effect sent.0 state sent.1 refl;
      again = λ b there ready.
          ap (complete b p (Sends target value)) (effect_again command b c p None effect there done.1)
          ∙ ap (λ (x : Configuration). Ok x)
          (sent_effect b p target value effect sent.0 state sent.1 (counted_again (Sends target value) b c p effect there));
    }
proceeds command (Receives source variable) c p d same e =
    received command source variable c p d (channel_of c source p) same refl e

pub fires : (o : Option Command) (c : Configuration) (p : ℕ) (d : Configuration) → fire_if o c p ≡ Ok d → Fires o c p d
fires None c p d e = cc
fires (Some command) c p d e =
    let truth = λ (b : Configuration). truth_of (evaluate command.guard (state_in b p)) in
    let open_ = guard_true (truth c) (proceed command command.action c p) d e in
    let does = proceeds command command.action c p d refl open_.1 in
    record {
      move = does.move;
      state = does.state;
      sends = does.sends;
      receives = does.receives;
      sent = does.sent;
      got = does.got;
      ready = does.ready;
      leads = does.leads;
      again = λ b there ready.
          passes (truth b) (proceed command command.action b p) (after_move does.move p does.state b)
          (ap (λ (s : LocalState). truth_of (evaluate command.guard s)) there ∙ open_.0) (does.again b there ready);
    }

-- Two processes that can both fire can fire in either order, with the same result.

-- an appended message leaves the head of a channel as it is
pub put_after : (g : Grid) (p t s q : ℕ) (v m : ℤ) (rest : List ℤ) → cell g s q ≡ m ∷ rest
    → (later : List ℤ) × (cell (change g p t (λ messages. messages ++ v ∷ [])) s q ≡ m ∷ later)
put_after g p t s q v m rest e =
    let other = λ (apart : p ≡ s → t ≢ q).
    (cell-put_other g p t s q (cell g p t ++ v ∷ []) apart ∙ e) in
    ⊎_elim
    (λ (same : p ≡ s). ⊎_elim
    (λ (one : t ≡ q). (
      rest ++ v ∷ [],
      rw (same, one) (cell-put_same g s q (cell g s q ++ v ∷ []) (row_within g s q m rest e) (cell_within g s q m rest e)
          ∙ ap (λ (messages : List ℤ). messages ++ v ∷ []) e),
    ))
    (λ (apart : t ≢ q). (rest, other (λ x. apart)))
    (cases_eq t q))
    (λ (apart : p ≢ s). (rest, other (λ (x : p ≡ s) (y : t ≡ q). apart x)))
    (cases_eq p s)

pub stays_ready : (a b : Move) (p q : ℕ) (g : Grid) → p ≢ q → IsReady b q g → IsReady b q (channels_after a p g)
stays_ready a Keeps p q g apart ready = tt
stays_ready a (Puts target value) p q g apart ready = tt
stays_ready Keeps (Takes source message) p q g apart ready = ready
stays_ready (Puts target value) (Takes source message) p q g apart ready =
    put_after g p target source q value message ready.0 ready.1
stays_ready (Takes other taken) (Takes source message) p q g apart ready =
    (ready.0, cell-put_other g other p source q (drop 1 (cell g other p)) (λ x. apart) ∙ ready.1)

-- one process appends to a channel that has a message, and the other takes its head
put_take : (g : Grid) (s q : ℕ) (v m : ℤ) (rest : List ℤ) → cell g s q ≡ m ∷ rest
    → change (change g s q (λ messages. messages ++ v ∷ [])) s q (drop 1)
    ≡ change (change g s q (drop 1)) s q (λ messages. messages ++ v ∷ [])
put_take g s q v m rest e =
    change_twice g s q m rest (λ messages. messages ++ v ∷ []) (drop 1) e
    ∙ ap (λ (messages : List ℤ). put g s q messages) (prefix_and_back (cell g s q) m rest v e)
    ∙ sym (change_twice g s q m rest (drop 1) (λ messages. messages ++ v ∷ []) e)
  where
    prefix_and_back : (messages : List ℤ) (m : ℤ) (rest : List ℤ) (v : ℤ) → messages ≡ m ∷ rest
        → drop 1 (messages ++ v ∷ []) ≡ drop 1 messages ++ v ∷ []
    prefix_and_back messages m rest v e = rw e refl

puts_takes : (g : Grid) (p t s q : ℕ) (v m : ℤ) → IsReady (Takes s m) q g
    → change (change g p t (λ messages. messages ++ v ∷ [])) s q (drop 1)
    ≡ change (change g s q (drop 1)) p t (λ messages. messages ++ v ∷ [])
puts_takes g p t s q v m ready =
    let other = λ (apart : p ≡ s → t ≢ q). changes_swap g p t s q (λ messages. messages ++ v ∷ []) (drop 1) apart in
    ⊎_elim
    (λ (same : p ≡ s). ⊎_elim
    (λ (one : t ≡ q). rw (same, one) (put_take g s q v m ready.0 ready.1))
    (λ (apart : t ≢ q). other (λ x. apart))
    (cases_eq t q))
    (λ (apart : p ≢ s). other (λ (x : p ≡ s) (y : t ≡ q). apart x))
    (cases_eq p s)

pub moves_swap : (a b : Move) (p q : ℕ) (g : Grid) → p ≢ q → IsReady a p g → IsReady b q g
    → channels_after b q (channels_after a p g) ≡ channels_after a p (channels_after b q g)
moves_swap Keeps b p q g apart first second = refl
moves_swap a Keeps p q g apart first second = refl
moves_swap (Puts target value) (Puts other sent) p q g apart first second =
    changes_swap g p target q other (λ messages. messages ++ value ∷ []) (λ messages. messages ++ sent ∷ [])
    (λ (x : p ≡ q) (y : target ≡ other). apart x)
moves_swap (Puts target value) (Takes source message) p q g apart first second = puts_takes g p target source q value message second
moves_swap (Takes source message) (Puts target value) p q g apart first second =
    sym (puts_takes g q target source p value message first)
moves_swap (Takes source message) (Takes other taken) p q g apart first second =
    changes_swap g source p other q (drop 1) (drop 1) (λ x. apart)

-- a move leaves the local states of the other processes
pub other_state : (move : Move) (state : LocalState) (c d : Configuration) (p q : ℕ) → p ≢ q → d ≡ after_move move p state c
    → state_in d q ≡ state_in c q
other_state move state c d p q apart leads =
    ap (λ (x : Configuration). state_in x q) leads
    ∙ get_or-set_other c.states p q state no_state (λ (same : q ≡ p). apart (sym same))

pub kept_state : (P : Program) (c d : Configuration) (p k q : ℕ) → p ≢ q → fire P c p k ≡ Ok d → state_in d q ≡ state_in c q
kept_state P c d p k q apart fire_is =
    let f = fires (command_of P p k) c p d fire_is in
    other_state f.move f.state c d p q apart f.leads

moves_meet : (a b : Move) (s t : LocalState) (p q : ℕ) (c : Configuration) → p ≢ q → IsReady a p c.channels → IsReady b q c.channels
    → after_move b q t (after_move a p s c) ≡ after_move a p s (after_move b q t c)
moves_meet a b s t p q c apart first second =
    let states = set_comm c.states p q s t apart in
    let channels = moves_swap a b p q c.channels apart first second in
    λ i. record { states = states i; channels = channels i }

-- both fire at c: each fires after the other, with the same result
pub record Diamond (P : Program) (p k q l : ℕ) (d e : Configuration) : Type 0 where
  pub meet : Configuration
  pub one : fire P d q l ≡ Ok meet
  pub other : fire P e p k ≡ Ok meet

pub diamond : (P : Program) (c : Configuration) (p k q l : ℕ) (d e : Configuration) → p ≢ q → fire P c p k ≡ Ok d → fire P c q l ≡ Ok e
    → Diamond P p k q l d e
diamond P c p k q l d e apart first second =
    let f = fires (command_of P p k) c p d first in
    let g = fires (command_of P q l) c q e second in
    let back : q ≢ p = λ same. apart (sym same) in
    record {
      meet = after_move g.move q g.state d;
      one = g.again d (other_state f.move f.state c d p q apart f.leads)
          (subst (λ (x : Configuration). IsReady g.move q x.channels) (sym f.leads)
          (stays_ready f.move g.move p q c.channels apart g.ready));
      other = f.again e (other_state g.move g.state c e q p back g.leads)
          (subst (λ (x : Configuration). IsReady f.move p x.channels) (sym g.leads)
          (stays_ready g.move f.move q p c.channels back f.ready))
          ∙ ap (λ (x : Configuration). Ok x)
          (ap (after_move f.move p f.state) g.leads
          ∙ sym (moves_meet f.move g.move f.state g.state p q c apart f.ready g.ready)
          ∙ ap (after_move g.move q g.state) (sym f.leads));
    }
