-- Lists of events: the configurations to which they lead, the histories that they make, and swaps of neighbours.
use Rattle.std.specs.Prelude.{◌≡◌, ◌≢◌, ℕ, List, [], ◌∷◌, ◌++◌, map, replicate, slice_index_or, slice_set}
use Rattle.std.specs.Prelude.{Option, Some, None, Result, Ok, Err}
use Rattle.dbg_base.specs.declared.refusal.Refusal.{Refusal}
use Rattle.dbg_base.specs.Trees.{Action, Sends, Receives, Command, Program}
use Rattle.dbg_base.specs.LocalStates.{LocalState}
use Rattle.dbg_base.specs.Configurations.{Configuration, start_of, state_in}
use Rattle.dbg_base.specs.Firing.{fire}
use Rattle.dbg_base.specs.Histories.{History}

-- a process makes a choice
pub record Event : Type 0 where
  pub process : ℕ
  pub choice : ℕ

-- continues from the configuration to which a choice led, unless it did not fire
abbrev pub and_then : Result Configuration Refusal → (Configuration → Result Configuration Refusal) → Result Configuration Refusal
and_then (Ok c) next = next c
and_then (Err refusal) next = Err refusal

-- the configuration to which these events lead from c, one after the other, or the refusal of the first that does not fire
abbrev pub order_from : Program → Configuration → List Event → Result Configuration Refusal
order_from P c [] = Ok c
order_from P c (e ∷ E) = and_then (fire P c e.process e.choice) (λ d. order_from P d E)

-- the configuration to which they lead from the start
abbrev pub order : Program → List Event → Result Configuration Refusal
order P E = order_from P (start_of P) E

-- each event fires after those before it
abbrev pub IsLegalFrom : Program → Configuration → List Event → Type 0
IsLegalFrom P c E = (d : Configuration) × (order_from P c E ≡ Ok d)

abbrev pub IsLegalOrder : Program → List Event → Type 0
IsLegalOrder P E = IsLegalFrom P (start_of P) E

-- the history in which process p makes choice k first
abbrev pub with_first : History → ℕ → ℕ → History
with_first H p k = slice_set H p (k ∷ slice_index_or H p [])

-- the history in which process p makes choice k last
abbrev pub with_last : History → ℕ → ℕ → History
with_last H p k = slice_set H p (slice_index_or H p [] ++ k ∷ [])

-- the history of these events, for so many processes: for each process its choices in their order
abbrev pub choices_of : ℕ → List Event → History
choices_of processes [] = replicate processes []
choices_of processes (e ∷ E) = with_first (choices_of processes E) e.process e.choice

-- process p has one more local state, the one at c
abbrev pub with_state_of : List (List LocalState) → ℕ → Configuration → List (List LocalState)
with_state_of states p c = slice_set states p (slice_index_or states p [] ++ state_in c p ∷ [])

-- the local state of process p is added and the rest follows, unless p did not fire
abbrev pub states_then : Result Configuration Refusal → List (List LocalState) → ℕ
    → (Configuration → List (List LocalState) → List (List LocalState)) → List (List LocalState)
states_then (Ok c) states p next = next c (with_state_of states p c)
states_then (Err refusal) states p next = states

-- the local states of each process, after those of `states`, as the events fire from c on
abbrev pub states_from : Program → Configuration → List (List LocalState) → List Event → List (List LocalState)
states_from P c states [] = states
states_from P c states (e ∷ E) = states_then (fire P c e.process e.choice) states e.process (λ d later. states_from P d later E)

-- the local states of each process as the events fire, its start first
abbrev pub states_of : Program → List Event → List (List LocalState)
states_of P E = states_from P (start_of P) (map (λ state. state ∷ []) (start_of P).states) E

-- F is E with two neighbours of different processes exchanged
pub record IsSwap (E F : List Event) : Type 0 where
  pub prefix : List Event
  pub one : Event
  pub other : Event
  pub beyond : List Event
  pub before : E ≡ prefix ++ one ∷ other ∷ beyond
  pub after : F ≡ prefix ++ other ∷ one ∷ beyond
  pub apart : one.process ≢ other.process

-- The first list becomes the second by swaps of neighbours of different processes, and each list between them is legal from c.
pub data GoesOver (P : Program) (c : Configuration) : List Event → List Event → Type 0 where
  Stays : {E : List Event} → IsLegalFrom P c E → GoesOver P c E E
  Swaps : {E F G : List Event} → IsLegalFrom P c E → IsSwap E F → GoesOver P c F G → GoesOver P c E G

-- the process to which a command sends, if it sends
abbrev pub target_of : Action → Option ℕ
target_of (Sends target value) = Some target
target_of action = None

abbrev pub target_in : Option Command → Option ℕ
target_in None = None
target_in (Some command) = target_of command.action

-- the process from which a command receives, if it receives
abbrev pub source_of : Action → Option ℕ
source_of (Receives source variable) = Some source
source_of action = None

abbrev pub source_in : Option Command → Option ℕ
source_in None = None
source_in (Some command) = source_of command.action
