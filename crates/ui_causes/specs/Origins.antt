-- Which event wrote a value of a process.
use Rattle.std.specs.Prelude.{◌≡◌, ℕ, ◌+◌, ◌-◌, ◌<◌, ◌≤◌, ◌==◌, ℤ, pos, List, [], ◌∷◌, length, Option, Some, None, MatchOption, if◌then◌else◌}
use Rattle.std.specs.Prelude.{slice_get, slice_index, slice_index_or}
use Rattle.dbg_base.specs.declared.expr.Direction.{Direction}
use Rattle.dbg_base.specs.declared.expr.Direction.TheVariants as counts
use Rattle.dbg_base.specs.LocalStates.{LocalState, counts_of}
use Rattle.event_rows.specs.declared.setting.Setting.{Setting}
use Rattle.event_rows.specs.declared.exchange.Exchange.{Exchange}
use Rattle.event_rows.specs.declared.exchange.Exchange.TheVariants.{Nothing, Sent, Took}
use Rattle.event_rows.specs.EventValues.{EventValue}
use Rattle.event_rows.specs.Events.{past_of}
use Rattle.ui_view.specs.declared.values.NamedValue.{NamedValue}
use Rattle.ui_view.specs.declared.values.NamedValue.TheVariants.{Variable, Count}
use Rattle.ui_causes.specs.declared.written.Written.{Written}
use Rattle.ui_causes.specs.declared.origin.Origin.{Origin}
use Rattle.ui_causes.specs.declared.origin.Origin.TheVariants.{Start, Event}

-- a variable or a count of messages in a local state, 0 if there is none
abbrev pub value_in : NamedValue → LocalState → ℤ
value_in (Variable x) state = slice_index_or state.values x (pos 0)
value_in (Count direction q) state = pos (slice_index (counts_of direction state) q.0)

-- the local state has it
abbrev pub Has : NamedValue → LocalState → Type 0
Has (Variable x) state = x < length state.values
Has (Count direction q) state = q.0 < length (counts_of direction state)

-- the second, unless there is none
abbrev pub or_later : Option Written → Option Written → Option Written
or_later earlier None = earlier
or_later earlier (Some later) = Some later

-- what this setting writes to variable x
abbrev pub set_by : ℕ → Setting → Option Written
set_by x s = if s.variable == x then Some (record { old = s.old; new = s.new }) else None

-- what the last of the settings of variable x writes
abbrev pub last_set : ℕ → List Setting → Option Written
last_set x [] = None
last_set x (s ∷ settings) = or_later (set_by x s) (last_set x settings)

-- a count that became this one
abbrev pub counted : ℕ → Written
counted count = record { old = pos (count - 1); new = pos count }

-- what an exchange writes to a count of messages to process q, or from it
abbrev pub sent_by : ℕ → Exchange → Option Written
sent_by q Nothing = None
sent_by q (Sent target value count) = if target.0 == q then Some (counted count) else None
sent_by q (Took source message count) = None

abbrev pub got_by : ℕ → Exchange → Option Written
got_by q Nothing = None
got_by q (Sent target value count) = None
got_by q (Took source message count) = if source.0 == q then Some (counted count) else None

abbrev pub count_written : Direction → ℕ → Exchange → Option Written
count_written counts.Sent q exchange = sent_by q exchange
count_written counts.Got q exchange = got_by q exchange

-- what an event writes to this value, if it does
abbrev pub write_of : NamedValue → EventValue → Option Written
write_of (Variable x) event = last_set x event.settings
write_of (Count direction q) event = count_written direction q.0 event.exchange

-- the same for an event that may be missing
abbrev pub write_if : NamedValue → Option EventValue → Option Written
write_if named None = None
write_if named (Some event) = write_of named event

-- what the event at this position, from 0, writes to the value
abbrev pub write_at : NamedValue → List EventValue → ℕ → Option Written
write_at named events k = write_if named (slice_get events k)

-- none of the events from position m up to position n writes it
abbrev pub NoWrite : NamedValue → List EventValue → ℕ → ℕ → Type 0
NoWrite named events m n = (k : ℕ) → m ≤ k → k < n → write_at named events k ≡ None

-- Of the first n events, the one with the number m, from 1, is the last that writes the value, and it writes this. That is the value after
-- the n events.
pub record IsLastWrite (named : NamedValue) (start : LocalState) (events : List EventValue) (n m : ℕ) (written : Written) : Type 0 where
  pub first : 1 ≤ m
  pub within : m ≤ n
  pub writes : write_at named events (m - 1) ≡ Some written
  pub last : NoWrite named events m n
  pub value : Has named start → value_in named (past_of start events n) ≡ written.new

-- None of the first n events writes the value, which is that of the start.
pub record IsOfStart (named : NamedValue) (start : LocalState) (events : List EventValue) (n : ℕ) : Type 0 where
  pub none : NoWrite named events 0 n
  pub value : Has named start → value_in named (past_of start events n) ≡ value_in named start

-- the last of the first n events that writes the value, if there is one
abbrev pub FindsWrite : NamedValue → LocalState → List EventValue → ℕ → Option (ℕ × Written) → Type 0
FindsWrite named start events n found =
    MatchOption found (IsOfStart named start events n) (λ write. IsLastWrite named start events n write.0 write.1)

-- where the value comes from that a process has after its first n events
abbrev pub IsOrigin : NamedValue → LocalState → List EventValue → ℕ → Origin → Type 0
IsOrigin named start events n (Start value) = IsOfStart named start events n × (value ≡ value_in named start)
IsOrigin named start events n (Event m written) = IsLastWrite named start events n m written
