-- The state of a system of processes: the local state of each process, and the messages on their way.
use Rattle.std.specs.Prelude.{ℕ, ℤ, List, [], length, map, replicate, slice_index_or, slice_set}
use Rattle.dbg_base.specs.Trees.{Program}
use Rattle.dbg_base.specs.LocalStates.{LocalState, no_state, start_among}

-- A local state for each process, which counts its messages to and from each other process. For each ordered pair of processes the messages
-- from the first to the second, the head of the channel first.
pub record Configuration : Type 0 where
  pub states : List LocalState
  pub channels : List (List (List ℤ))

-- the initial values, and no messages
abbrev pub start_of : Program → Configuration
start_of P =
    record { states = map (start_among (length P)) P; channels = replicate (length P) (replicate (length P) []) }

-- the local state of process p
abbrev pub state_in : Configuration → ℕ → LocalState
state_in c p = slice_index_or c.states p no_state

-- the values of process p
abbrev pub values_of : Configuration → ℕ → List ℤ
values_of c p = (state_in c p).values

-- the messages from process i to process j
abbrev pub channel_of : Configuration → ℕ → ℕ → List ℤ
channel_of c i j = slice_index_or (slice_index_or c.channels i []) j []

-- the configuration with other messages from process i to process j
abbrev pub with_channel : Configuration → ℕ → ℕ → List ℤ → Configuration
with_channel c i j messages =
    record c { channels = slice_set c.channels i (slice_set (slice_index_or c.channels i []) j messages) }

-- the configuration with another local state of process p
abbrev pub with_state : Configuration → ℕ → LocalState → Configuration
with_state c p state = record c { states = slice_set c.states p state }
