-- What an event does between processes.
use Rattle.std.specs.Prelude.{◌≡◌, ◌+◌, ◌-◌, slice_index_or, slice_set}
use Rattle.dbg_base.specs.LocalStates.{LocalState}
use Rattle.event_rows.specs.declared.exchange.Exchange.{Exchange}
use Rattle.event_rows.specs.declared.exchange.Exchange.TheVariants.{Nothing, Sent, Took}

-- the messages up to this one are counted
abbrev pub counted_to : Exchange → LocalState → LocalState
counted_to Nothing state = state
counted_to (Sent target value count) state = record state { sent = slice_set state.sent target.0 count }
counted_to (Took source message count) state = record state { got = slice_set state.got source.0 count }

-- the same with the count before it
abbrev pub earlier : Exchange → Exchange
earlier Nothing = Nothing
earlier (Sent target value count) = Sent target value (count - 1)
earlier (Took source message count) = Took source message (count - 1)

-- the count is one more than the messages counted so far
abbrev pub IsNextCount : Exchange → LocalState → Type 0
IsNextCount Nothing state = Unit {0}
IsNextCount (Sent target value count) state = count ≡ slice_index_or state.sent target.0 0 + 1
IsNextCount (Took source message count) state = count ≡ slice_index_or state.got source.0 0 + 1
