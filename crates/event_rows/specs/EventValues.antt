-- What contracts see of events.
use Rattle.std.specs.Prelude.{ℕ, List}
use Rattle.dbg_base.specs.LocalStates.{LocalState}
use Rattle.event_rows.specs.declared.setting.Setting.{Setting}
use Rattle.event_rows.specs.declared.exchange.Exchange.{Exchange}

-- the command that the process made, its settings in order, and what it sent or received
pub record EventValue : Type 0 where
  pub choice : ℕ
  pub settings : List Setting
  pub exchange : Exchange

-- the events of one process, and how many more fit without allocation
pub record HistoryState : Type 0 where
  pub events : List EventValue
  pub room : ℕ

-- for each process its start, its events, and how many more fit without allocation
pub record RowsState : Type 0 where
  pub starts : List LocalState
  pub events : List (List EventValue)
  pub room : List ℕ
