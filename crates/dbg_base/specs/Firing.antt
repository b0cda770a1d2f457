-- One command of one process fires, or is refused: its guard is false, an evaluation faults, or there is nothing to receive.
use Rattle.std.specs.Prelude.{ℕ, ℤ, Bool, true, false, List, [], ◌∷◌, ◌++◌, Option, Some, None, Result, Ok, Err, slice_set}
use Rattle.dbg_base.specs.Trees.{Tree, Action, Local, Sends, Receives, Command, Program, command_of}
use Rattle.dbg_base.specs.Evaluation.{Value, Num, Tru, evaluate, number_of}
use Rattle.dbg_base.specs.declared.refusal.Refusal.{Refusal}
use Rattle.dbg_base.specs.declared.refusal.Refusal.TheVariants.{GuardFalse, Fault, ChannelEmpty}
use Rattle.dbg_base.specs.LocalStates.{LocalState, one_more}
use Rattle.dbg_base.specs.Configurations.{Configuration, state_in, channel_of, with_channel, with_state}

-- the guard's truth, or none if its evaluation faulted or gave a number
abbrev pub truth_of : Option Value → Option Bool
truth_of None = None
truth_of (Some (Num z)) = None
truth_of (Some (Tru b)) = Some b

-- the effect of a command: the variables that it sets with their new values, and the value that it sends, if any
pub record Effect : Type 0 where
  pub sets : List (ℕ × ℤ)
  pub message : Option ℤ

-- the variable that the received message sets, if the command receives
abbrev pub taken : Action → Option ℤ → List (ℕ × ℤ)
taken (Receives source variable) (Some message) = (variable, message) ∷ []
taken (Receives source variable) None = []
taken (Sends target value) message = []
taken Local message = []

-- the values with each of these variables set
abbrev pub set_all : List ℤ → List (ℕ × ℤ) → List ℤ
set_all values [] = values
set_all values (s ∷ sets) = set_all (slice_set values s.0 s.1) sets

-- adds a variable with its new value, unless either evaluation faults
abbrev pub and_set : ℕ → Option ℤ → Option (List (ℕ × ℤ)) → Option (List (ℕ × ℤ))
and_set variable None sets = None
and_set variable (Some z) None = None
and_set variable (Some z) (Some sets) = Some ((variable, z) ∷ sets)

-- the assigned variables with their new values, all evaluated in the same state
abbrev pub assigned : List (ℕ × Tree) → LocalState → Option (List (ℕ × ℤ))
assigned [] state = Some []
assigned (a ∷ assignments) state = and_set a.0 (number_of (evaluate a.1 state)) (assigned assignments state)

-- the settings `prefix`, then the assigned ones, with the value to send
abbrev pub effect_with : List (ℕ × ℤ) → Option ℤ → Option (List (ℕ × ℤ)) → Option Effect
effect_with prefix message None = None
effect_with prefix message (Some sets) = Some (record { sets = prefix ++ sets; message = message })

-- continues with the value to send
abbrev pub sending : Option ℤ → (ℤ → Option Effect) → Option Effect
sending None go = None
sending (Some z) go = go z

-- the state with these variables set
abbrev pub with_set : LocalState → List (ℕ × ℤ) → LocalState
with_set state sets = record state { values = set_all state.values sets }

-- the effect, by what the command does besides its assignments
abbrev pub effect_by : Action → List (ℕ × Tree) → LocalState → Option ℤ → Option Effect
effect_by (Sends target value) assignments state message =
    sending (number_of (evaluate value state)) (λ z. effect_with [] (Some z) (assigned assignments state))
effect_by action assignments state message =
    effect_with (taken action message) None (assigned assignments (with_set state (taken action message)))

-- The effect of a command in this local state, with this message if it receives; none if an evaluation faults. The value to send is
-- evaluated in the old state. An assignment is evaluated in the old state with the received message in its variable. Messages are counted
-- only after the event.
abbrev pub effect_of : Command → LocalState → Option ℤ → Option Effect
effect_of command state message = effect_by command.action command.assignments state message

-- the state with the message counted that the command sends or receives
abbrev pub counted : Action → LocalState → LocalState
counted Local state = state
counted (Sends target value) state = record state { sent = one_more state.sent target }
counted (Receives source variable) state = record state { got = one_more state.got source }

-- the value is appended to the channel from process p to the target
abbrev pub deliver : Configuration → ℕ → ℕ → Option ℤ → Configuration
deliver c p target None = c
deliver c p target (Some z) = with_channel c p target (channel_of c p target ++ z ∷ [])

-- process p has set these variables, and its message is counted
abbrev pub advanced : Configuration → ℕ → Action → List (ℕ × ℤ) → Configuration
advanced c p action sets = with_state c p (counted action (with_set (state_in c p) sets))

-- the configuration after this effect of process p: the sent value is appended to its channel
abbrev pub after_effect : Configuration → ℕ → Action → Effect → Configuration
after_effect c p (Sends target value) effect = deliver (advanced c p (Sends target value) effect.sets) p target effect.message
after_effect c p action effect = advanced c p action effect.sets

-- the configuration after the effect, or the refusal of an evaluation that faulted
abbrev pub complete : Configuration → ℕ → Action → Option Effect → Result Configuration Refusal
complete c p action None = Err Fault
complete c p action (Some effect) = Ok (after_effect c p action effect)

-- a receive takes the head of its channel; other commands proceed unchanged
abbrev pub receive : Command → Configuration → ℕ → ℕ → List ℤ → Result Configuration Refusal
receive command c p source [] = Err ChannelEmpty
receive command c p source (message ∷ messages) =
    complete (with_channel c source p messages) p command.action (effect_of command (state_in c p) (Some message))

abbrev pub proceed : Command → Action → Configuration → ℕ → Result Configuration Refusal
proceed command (Receives source variable) c p = receive command c p source (channel_of c source p)
proceed command action c p = complete c p action (effect_of command (state_in c p) None)

-- continues if the guard is true
abbrev pub where_true : Option Bool → Result Configuration Refusal → Result Configuration Refusal
where_true None next = Err Fault
where_true (Some false) next = Err GuardFalse
where_true (Some true) next = next

-- Process p makes this command. First its guard is evaluated. Then a receive needs a message. Then the value to send and the assigned
-- values are evaluated, all with the counts before the event. Then all variables are set at once, the message is counted, and the sent
-- value is appended to its channel.
abbrev pub fire_command : Command → Configuration → ℕ → Result Configuration Refusal
fire_command command c p =
    where_true (truth_of (evaluate command.guard (state_in c p))) (proceed command command.action c p)

-- the command, if there is one
abbrev pub fire_if : Option Command → Configuration → ℕ → Result Configuration Refusal
fire_if None c p = Err GuardFalse
fire_if (Some command) c p = fire_command command c p

-- Command k of process p. A command that the process does not have counts as one whose guard is false.
abbrev pub fire : Program → Configuration → ℕ → ℕ → Result Configuration Refusal
fire P c p k = fire_if (command_of P p k) c p
