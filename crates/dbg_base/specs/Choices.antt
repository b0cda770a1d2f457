-- What a process may do in a state of the system: the choice that it makes, or why it makes none, and why its last event may not be undone.
use Rattle.std.specs.Prelude.{◌≡◌, ℕ, ◌+◌, ◌<◌, List, [], ◌∷◌, length, Option, Some, None, ok_or, Result, Ok, Err, nat_lt, slice_get}
use Rattle.std.specs.Prelude.{if◌then◌else◌}
use Rattle.dbg_base.specs.declared.refusal.Refusal.{Refusal}
use Rattle.dbg_base.specs.declared.refusal.Refusal.TheVariants.{UnknownChoice, ProcessFull, NothingToRedo, NoneEnabled, NothingToUndo}
use Rattle.dbg_base.specs.declared.refusal.Refusal.TheVariants.{Consequence}
use Rattle.dbg_base.specs.declared.limits.TheConstants.{EVENTS}
use Rattle.dbg_base.specs.Trees.{Command, Program, process_of, command_of}
use Rattle.dbg_base.specs.Configurations.{Configuration}
use Rattle.dbg_base.specs.Firing.{fire, fire_command}
use Rattle.dbg_base.specs.Histories.{IsPossible}
use Rattle.dbg_base.specs.Orders.{target_in}
use Rattle.dbg_base.specs.Reversal.{without_last}
use Rattle.dbg_base.specs.SystemStates.{SystemState, line_of, place_at, history_of, configuration_of, last_choice}

-- the first of the commands that fires, or none; the first command has the number k
abbrev pub fires_first : Result Configuration Refusal → ℕ → Option ℕ → Option ℕ
fires_first (Ok c) k others = Some k
fires_first (Err refusal) k others = others

abbrev pub lowest_from : ℕ → List Command → Configuration → ℕ → Option ℕ
lowest_from k [] c p = None
lowest_from k (command ∷ commands) c p = fires_first (fire_command command c p) k (lowest_from (k + 1) commands c p)

-- the lowest command of process p that fires, if one does
abbrev pub lowest_enabled : Program → Configuration → ℕ → Option ℕ
lowest_enabled P c p = lowest_from 0 (process_of P p).commands c p

-- the choice, if its command fires
abbrev pub if_fires : ℕ → Result Configuration Refusal → Result ℕ Refusal
if_fires k (Ok c) = Ok k
if_fires k (Err refusal) = Err refusal

-- the choice that process p makes at `step`, or why it makes none
abbrev pub step_choice : Program → SystemState → ℕ → ℕ → Result ℕ Refusal
step_choice P M p k =
    if nat_lt k (length (process_of P p).commands)
    then (if nat_lt (place_at M p) EVENTS then if_fires k (fire P (configuration_of P M) p k) else Err ProcessFull)
    else Err UnknownChoice

-- the choice that it makes at `next`, or why it makes none
abbrev pub next_choice : Program → SystemState → ℕ → Result ℕ Refusal
next_choice P M p =
    if nat_lt (place_at M p) EVENTS then ok_or (lowest_enabled P (configuration_of P M) p) NoneEnabled else Err ProcessFull

-- the choice that it makes at `redo`, or why it makes none
abbrev pub choice_again : Program → Configuration → ℕ → Option ℕ → Result ℕ Refusal
choice_again P c p None = Err NothingToRedo
choice_again P c p (Some k) = if_fires k (fire P c p k)

abbrev pub redo_choice : Program → SystemState → ℕ → Result ℕ Refusal
redo_choice P M p = choice_again P (configuration_of P M) p (slice_get (line_of M p) (place_at M p))

-- the process to which the last event of process p sends, if it sends
abbrev pub last_target : Program → SystemState → ℕ → Option ℕ → Option ℕ
last_target P M p None = None
last_target P M p (Some k) = target_in (command_of P p k)

-- Process p's last event may not be undone: without it the remaining events are not possible, since process q has received its message.
pub record IsNeeded (P : Program) (M : SystemState) (p q : ℕ) : Type 0 where
  pub some : 0 < place_at M p
  pub impossible : ¬ IsPossible P (without_last (history_of M) p)
  pub receiver : last_target P M p (last_choice M p) ≡ Some q

-- why the last event may not be undone
abbrev pub CannotUndo : Program → SystemState → ℕ → Refusal → Type 0
CannotUndo P M p NothingToUndo = place_at M p ≡ 0
CannotUndo P M p (Consequence q) = IsNeeded P M p q.0
CannotUndo P M p refusal = ⊥
