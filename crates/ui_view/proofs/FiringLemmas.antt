-- What is found before a command fires says whether it fires.
use Rattle.std.proofs.Common.{◌≡◌, ℕ, ◌<◌, ℤ, List, [], ◌∷◌, length, Option, Some, None, Result, Ok, Err, refl, sym, ap, ◌∙◌, subst, arith, ◌≤◌, Bool, true, false, zero, suc, get_or}
use Rattle.std.specs.Prelude.{slice_get, nat_lt, if◌then◌else◌}
use Rattle.std.proofs.lemmas.Bool.{lt-ltb, le-ltb}
use Rattle.dbg_base.specs.Trees.{Program, Command, Action, Local, Sends, Receives, process_of, command_of}
use Rattle.dbg_base.specs.Configurations.{Configuration, state_in, channel_of, with_channel}
use Rattle.dbg_base.specs.Firing.{Effect, effect_of, complete, receive, proceed, where_true, fire, fire_if, fire_command}
use Rattle.dbg_base.specs.Choices.{if_fires, step_choice}
use Rattle.dbg_base.specs.SystemStates.{SystemState, place_at, configuration_of}
use Rattle.dbg_base.specs.declared.limits.TheConstants.{EVENTS}
use Rattle.dbg_base.specs.declared.refusal.Refusal.{Refusal}
use Rattle.dbg_base.specs.declared.refusal.Refusal.TheVariants.{Fault, UnknownChoice, ProcessFull}
use Rattle.ui_view.specs.Hindrances.{refusal_of, FindsFault, Prevents, IsVerdict}
use Rattle.ui_view.specs.declared.hindrance.Hindrance.{Hindrance}

-- an effect is made, or faults
pub completes : (c : Configuration) (p : ℕ) (action : Action) (found : Option Hindrance) (effect : Option Effect)
    → FindsFault found effect → Prevents found (complete c p action effect)
completes c p action None None finds = finds
completes c p action None (Some effect) finds = finds
completes c p action (Some hindrance) effect finds =
    ap (λ (e : Option Effect). complete c p action e) finds.1 ∙ ap (λ (refusal : Refusal). Err refusal) (sym finds.0)

-- a message is received, the first of its channel
pub receives : (command : Command) (c : Configuration) (p source : ℕ) (messages : List ℤ) (m : ℤ) (found : Option Hindrance)
    → slice_get messages 0 ≡ Some m → FindsFault found (effect_of command (state_in c p) (Some m))
    → Prevents found (receive command c p source messages)
receives command c p source [] m found is finds = absurd (let none : None ≡ Some m = is in cc)
receives command c p source (first ∷ messages) m found is finds =
    completes (with_channel c source p messages) p command.action found (effect_of command (state_in c p) (Some first))
    (subst (λ (taken : Option ℤ). FindsFault found (effect_of command (state_in c p) taken)) (sym is) finds)

-- no message is there
pub lacks : (command : Command) (c : Configuration) (p source : ℕ) (messages : List ℤ)
    → None ≡ slice_get messages 0 → receive command c p source messages ≡ receive command c p source []
lacks command c p source [] is = refl
lacks command c p source (first ∷ messages) is = absurd (let none : None ≡ Some first = is in cc)

-- a command that fires is the choice of a step
pub verdict : (k : ℕ) (found : Option Hindrance) (fires : Result Configuration Refusal) → Prevents found fires
    → IsVerdict found k (if_fires k fires)
verdict k None (Ok after) prevents = refl
verdict k None (Err refusal) prevents = absurd prevents
verdict k (Some hindrance) fires prevents = ap (λ (r : Result Configuration Refusal). if_fires k r) prevents

-- an element of a list
pub there : {A : Type 0} (xs : List A) (k : ℕ) (none x : A) → slice_get xs k ≡ Some x → x ≡ get_or xs k none
there [] k none x is = absurd (let wrong : None ≡ Some x = is in cc)
there (y ∷ ys) zero none x is = let same : Some y ≡ Some x = is in cc
there (y ∷ ys) (suc k) none x is = there ys k none x is

pub missing : {A : Type 0} (xs : List A) (k : ℕ) → k < length xs → slice_get xs k ≡ None → ⊥
missing [] k lt is = omega (arith, lt)
missing (x ∷ xs) zero lt is = let wrong : Some x ≡ None = is in cc
missing (x ∷ xs) (suc k) lt is = missing xs k (omega (arith, lt)) is

-- The choice of a step, by the number of the command and of the events.

module _ (P : Program) (M : SystemState) (p k : ℕ) where
  abbrev fired : Result ℕ Refusal
  fired = if_fires k (fire P (configuration_of P M) p k)

  abbrev counted : Result ℕ Refusal
  counted = if nat_lt (place_at M p) EVENTS then fired else Err ProcessFull

  -- the process has no such command
  pub no_command : length (process_of P p).commands ≤ k → step_choice P M p k ≡ Err UnknownChoice
  no_command none =
      ap (λ (b : Bool). if b then counted else Err UnknownChoice) (le-ltb k (length (process_of P p).commands) none)

  has_command : k < length (process_of P p).commands → step_choice P M p k ≡ counted
  has_command some =
      ap (λ (b : Bool). if b then counted else Err UnknownChoice) (lt-ltb k (length (process_of P p).commands) some)

  -- it has as many events as it may have
  pub full : k < length (process_of P p).commands → EVENTS ≤ place_at M p → step_choice P M p k ≡ Err ProcessFull
  full some many = has_command some ∙ ap (λ (b : Bool). if b then fired else Err ProcessFull) (le-ltb (place_at M p) EVENTS many)

  -- it has fewer
  pub decides : (command : Command) (c : Configuration) (found : Option Hindrance) → k < length (process_of P p).commands
      → place_at M p < EVENTS → command_of P p k ≡ Some command → c ≡ configuration_of P M → Prevents found (fire_command command c p)
      → IsVerdict found k (step_choice P M p k)
  decides command c found some few is here prevents =
      let chosen : step_choice P M p k ≡ fired =
      has_command some ∙ ap (λ (b : Bool). if b then fired else Err ProcessFull) (lt-ltb (place_at M p) EVENTS few) in
      let fires : fire P (configuration_of P M) p k ≡ fire_command command c p =
      ap (λ (o : Option Command). fire_if o (configuration_of P M) p) is
      ∙ ap (λ (d : Configuration). fire_command command d p) (sym here) in
      subst (λ (r : Result ℕ Refusal). IsVerdict found k r)
      (sym (chosen ∙ ap (λ (r : Result Configuration Refusal). if_fires k r) fires))
      (verdict k found (fire_command command c p) prevents)
