-- The state of one process, which is all that its expressions read.
use Rattle.std.specs.Prelude.{ℕ, ◌+◌, ℤ, List, [], length, map, replicate, slice_index_or, slice_set}
use Rattle.dbg_base.specs.declared.expr.Direction.{Direction}
use Rattle.dbg_base.specs.declared.expr.Direction.TheVariants.{Sent, Got}
use Rattle.dbg_base.specs.Trees.{Program, Process, process_of}

-- the values of its variables, and for each process how many messages it has sent to that process and received from it
pub record LocalState : Type 0 where
  pub values : List ℤ
  pub sent : List ℕ
  pub got : List ℕ

-- the local state of a process that does not exist
abbrev pub no_state : LocalState
no_state = record { values = []; sent = []; got = [] }

-- the counted messages, for each process
abbrev pub counts_of : Direction → LocalState → List ℕ
counts_of Sent state = state.sent
counts_of Got state = state.got

-- the initial values of a process
abbrev pub start_values : Process → List ℤ
start_values process = map (λ variable. variable.1) process.variables

-- the start of one of so many processes: its initial values, and no messages
abbrev pub start_among : ℕ → Process → LocalState
start_among processes process =
    record { values = start_values process; sent = replicate processes 0; got = replicate processes 0 }

-- the start of process p
abbrev pub start_state : Program → ℕ → LocalState
start_state P p = start_among (length P) (process_of P p)

-- the counts with one more message
abbrev pub one_more : List ℕ → ℕ → List ℕ
one_more counts other = slice_set counts other (slice_index_or counts other 0 + 1)
