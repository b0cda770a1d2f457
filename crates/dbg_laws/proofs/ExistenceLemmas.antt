-- What exists: a value for each variable, after any events, and the process to which a command sends.
use Rattle.std.proofs.Common.{◌≡◌, ℕ, zero, suc, ◌+◌, ◌<◌, ℤ, Bool, true, false, List, [], ◌∷◌, length}
use Rattle.std.proofs.Common.{get_or, set, map, Option, Some, None, Result, Ok, Err, refl, sym, ap, ◌∙◌, subst, arith}
use Rattle.std.specs.Prelude.{slice_get}
use Rattle.std.specs.List.{list_all}
use Rattle.std.proofs.lemmas.Bool.{ltb-true, and_parts}
use Rattle.std.proofs.lemmas.List.{length-set, length-map}
use Rattle.dbg_base.specs.declared.refusal.Refusal.{Refusal}
use Rattle.dbg_base.specs.Trees.{Program, Action, Local, Sends, Receives, Command, process_of, command_of}
use Rattle.dbg_base.specs.WellFormed.{is_well_formed, processes_fit, command_fits, action_fits, Bounds, bounds_among, is_other}
use Rattle.dbg_base.specs.LocalStates.{LocalState, no_state, start_among}
use Rattle.dbg_base.specs.Configurations.{Configuration, start_of, state_in, values_of, channel_of, with_channel}
use Rattle.dbg_base.specs.Firing.{Effect, effect_of, set_all, with_set, counted, deliver, advanced, complete, receive, proceed}
use Rattle.dbg_base.specs.Firing.{where_true, truth_of, fire_command, fire_if, fire}
use Rattle.dbg_base.specs.Evaluation.{evaluate}
use Rattle.dbg_base.specs.Histories.{History, IsPossible, play}
use Rattle.dbg_base.specs.Orders.{Event, order_from, target_in, target_of}
use Rattle.dbg_base.specs.Fits.{FitsRefusal}
use Rattle.dbg_laws.proofs.OrderSwapLemmas.{first_step}
use Rattle.dbg_laws.proofs.PlayLemmas.{listed}

-- Values: events keep their number.

-- as many values of each process as before
abbrev pub Keeps : Configuration → Configuration → Type 0
Keeps c d = (q : ℕ) → length (values_of d q) ≡ length (values_of c q)

length-set_all : (sets : List (ℕ × ℤ)) (values : List ℤ) → length (set_all values sets) ≡ length values
length-set_all [] values = refl
length-set_all (s ∷ sets) values = length-set_all sets (set values s.0 s.1) ∙ length-set values s.0 s.1

state_kept : (states : List LocalState) (p q : ℕ) (state : LocalState)
    → length state.values ≡ length (get_or states p no_state).values
    → length (get_or (set states p state) q no_state).values ≡ length (get_or states q no_state).values
state_kept [] p q state e = refl
state_kept (x ∷ states) zero zero state e = e
state_kept (x ∷ states) zero (suc q) state e = refl
state_kept (x ∷ states) (suc p) zero state e = refl
state_kept (x ∷ states) (suc p) (suc q) state e = state_kept states p q state e

counted_kept : (action : Action) (state : LocalState) → (counted action state).values ≡ state.values
counted_kept Local state = refl
counted_kept (Sends target value) state = refl
counted_kept (Receives source variable) state = refl

advanced_kept : (c : Configuration) (p : ℕ) (action : Action) (sets : List (ℕ × ℤ)) → Keeps c (advanced c p action sets)
advanced_kept c p action sets q =
    state_kept c.states p q (counted action (with_set (state_in c p) sets))
    (ap length (counted_kept action (with_set (state_in c p) sets)) ∙ length-set_all sets (values_of c p))

delivered : (c : Configuration) (p target : ℕ) (message : Option ℤ) → Keeps c (deliver c p target message)
delivered c p target None q = refl
delivered c p target (Some z) q = refl

-- it fires and keeps the number of values, or its refusal names no process that does not exist
abbrev pub KeepsOrFits : Program → Configuration → Result Configuration Refusal → Type 0
KeepsOrFits P c (Ok d) = Keeps c d
KeepsOrFits P c (Err refusal) = FitsRefusal P refusal

module _ (P : Program) where
  completes : (c : Configuration) (p : ℕ) (action : Action) (effect : Option Effect) → KeepsOrFits P c (complete c p action effect)
  completes c p action None = tt
  completes c p Local (Some effect) = advanced_kept c p Local effect.sets
  completes c p (Receives source variable) (Some effect) = advanced_kept c p (Receives source variable) effect.sets
  completes c p (Sends target value) (Some effect) = λ q.
      delivered (advanced c p (Sends target value) effect.sets) p target effect.message q
      ∙ advanced_kept c p (Sends target value) effect.sets q

  receives : (command : Command) (c : Configuration) (p source : ℕ) (messages : List ℤ) → KeepsOrFits P c (receive command c p source messages)
  receives command c p source [] = tt
  receives command c p source (message ∷ messages) =
      completes (with_channel c source p messages) p command.action (effect_of command (state_in c p) (Some message))

  proceeds : (command : Command) (action : Action) (c : Configuration) (p : ℕ) → KeepsOrFits P c (proceed command action c p)
  proceeds command Local c p = completes c p Local (effect_of command (state_in c p) None)
  proceeds command (Sends target value) c p = completes c p (Sends target value) (effect_of command (state_in c p) None)
  proceeds command (Receives source variable) c p = receives command c p source (channel_of c source p)

  guarded : (c : Configuration) (truth : Option Bool) (next : Result Configuration Refusal) → KeepsOrFits P c next → KeepsOrFits P c (where_true truth next)
  guarded c None next fits = tt
  guarded c (Some false) next fits = tt
  guarded c (Some true) next fits = fits

  command_fires : (command : Command) (c : Configuration) (p : ℕ) → KeepsOrFits P c (fire_command command c p)
  command_fires command c p = guarded c (truth_of (evaluate command.guard (state_in c p))) _ (proceeds command command.action c p)

  fires_if : (command : Option Command) (c : Configuration) (p : ℕ) → KeepsOrFits P c (fire_if command c p)
  fires_if None c p = tt
  fires_if (Some command) c p = command_fires command c p

  pub keeps_or_fits : (c : Configuration) (p k : ℕ) → KeepsOrFits P c (fire P c p k)
  keeps_or_fits c p k = fires_if (command_of P p k) c p

  order_kept : (E : List Event) (c d : Configuration) → order_from P c E ≡ Ok d → Keeps c d
  order_kept [] c d legal q = let same : c ≡ d = cc in ap (λ (x : Configuration). length (values_of x q)) (sym same)
  order_kept (e ∷ E) c d legal q =
      let step = first_step (fire P c e.process e.choice) (λ x. order_from P x E) d legal in
      order_kept E step.0 d step.2 q ∙ subst (KeepsOrFits P c) step.1 (keeps_or_fits c e.process e.choice) q

start_values : (n : ℕ) (P : Program) (p : ℕ) → p < length P
    → length (get_or (map (start_among n) P) p no_state).values ≡ length (process_of P p).variables
start_values n [] p here = absurd (omega arith)
start_values n (process ∷ P) zero here = length-map process.variables (λ variable. variable.1)
start_values n (process ∷ P) (suc p) here = start_values n P p (omega arith)

-- an existing process has a value for each variable
pub values_there : (P : Program) (H : History) (p : ℕ) → IsPossible P H → p < length P
    → length (values_of (play P H) p) ≡ length (process_of P p).variables
values_there P H p possible here =
    let l = listed P H possible in
    order_kept P l.events (start_of P) (play P H) l.legal p ∙ start_values (length P) P p here

-- Targets: in a well-formed program each exists.

action_target : (bounds : Bounds) (action : Action) (q : ℕ) → action_fits bounds action ≡ true → target_of action ≡ Some q
    → q < bounds.processes
action_target bounds Local q fit e = cc
action_target bounds (Receives source variable) q fit e = cc
action_target bounds (Sends target value) q fit e =
    let same : target ≡ q = cc in
    let other : is_other bounds target ≡ true = (and_parts _ _ fit).0 in
    subst (λ (t : ℕ). t < bounds.processes) same (ltb-true target bounds.processes (and_parts _ _ other).0)

command_target : (bounds : Bounds) (commands : List Command) (k q : ℕ) → list_all (command_fits bounds) commands ≡ true
    → target_in (slice_get commands k) ≡ Some q → q < bounds.processes
command_target bounds [] k q fit e = cc
command_target bounds (command ∷ commands) zero q fit e =
    action_target bounds command.action q (and_parts _ _ (and_parts _ _ (and_parts _ _ fit).0).0).1 e
command_target bounds (command ∷ commands) (suc k) q fit e = command_target bounds commands k q (and_parts _ _ fit).1 e

process_target : (n own : ℕ) (P : Program) (p k q : ℕ) → processes_fit n own P ≡ true → target_in (command_of P p k) ≡ Some q → q < n
process_target n own [] p k q fit e = cc
process_target n own (process ∷ P) zero k q fit e =
    command_target (bounds_among n own process) process.commands k q (and_parts _ _ (and_parts _ _ (and_parts _ _ fit).0).1).1 e
process_target n own (process ∷ P) (suc p) k q fit e = process_target n (own + 1) P p k q (and_parts _ _ fit).1 e

pub target_there : (P : Program) (p k q : ℕ) → is_well_formed P ≡ true → target_in (command_of P p k) ≡ Some q → q < length P
target_there P p k q fit e = process_target (length P) 0 P p k q (and_parts _ _ fit).1 e
