-- The meaning of small records.
use Rattle.std.specs.Prelude.{◌≡◌, Bool, true, false, Option, Some, None, Ok}
use Rattle.dbg_base.specs.declared.said.Said.{Said}
use Rattle.dbg_base.specs.declared.said.Said.TheVariants.{Accepted, Answered}
use Rattle.dbg_base.specs.declared.said.Done.{Done}
use Rattle.dbg_base.specs.declared.said.Done.TheVariants as done
use Rattle.dbg_base.specs.declared.said.Answer.TheVariants as answer
use Rattle.dbg_base.specs.declared.call.Call as call
use Rattle.dbg_base.specs.Calls as model
use Rattle.dbg_base.specs.Calls.{Call, Give, Back, Ask, One, call_of}
use Rattle.dbg_records.specs.declared.small_call.SmallCall.{SmallCall}
use Rattle.dbg_records.specs.declared.small_call.SmallCall.TheVariants as calls
use Rattle.dbg_records.specs.declared.small_said.SmallSaid.{SmallSaid}
use Rattle.dbg_records.specs.declared.small_said.SmallSaid.TheVariants as saids
use Rattle.dbg_records.specs.Flat.{is_flat_call}

-- the call of a small record
abbrev pub small_call_of : SmallCall → Call
small_call_of (calls.Step pid choice) = Give (One (model.Step pid.0 choice.0))
small_call_of (calls.Next pid) = Give (One (model.Next pid.0))
small_call_of (calls.Undo pid) = Give (One (model.Undo pid.0))
small_call_of (calls.Redo pid) = Give (One (model.Redo pid.0))
small_call_of (calls.Rollback pid place) = Give (One (model.Rollback pid.0 place))
small_call_of calls.Back = Back
small_call_of (calls.Vars pid) = Ask (model.Vars pid.0)
small_call_of (calls.Chan source target) = Ask (model.Chan source.0 target.0)
small_call_of (calls.Clock pid) = Ask (model.Clock pid.0)
small_call_of (calls.Place pid) = Ask (model.Place pid.0)
small_call_of (calls.Can pid) = Ask (model.Can pid.0)
small_call_of (calls.Apart call) = call_of call.value

-- the call has no batch within a batch
abbrev pub is_flat_small : SmallCall → Bool
is_flat_small (calls.Apart call) = is_flat_call call.value
is_flat_small other = true

-- the call is stored in a box
abbrev pub is_apart : SmallCall → Bool
is_apart (calls.Apart call) = true
is_apart other = false

-- there is a copy of a call that is stored in a box
abbrev pub HasAgain : SmallCall → Option call.Call → Type 0
HasAgain small None = is_apart small ≡ false
HasAgain small (Some again) = (call_of again ≡ small_call_of small) × (is_flat_call again ≡ true)

-- the call in few bytes, and a copy of it if those are a box
pub record IsGiven (given : Call) (small : SmallCall) (again : Option call.Call) : Type 0 where
  pub of : small_call_of small ≡ given
  pub flat : is_flat_small small ≡ true
  pub has : HasAgain small again

-- the command was accepted, and no breakpoint halts
abbrev pub accepted : Done → Said
accepted done = Accepted (record { done = done; halted = None })

-- the answer of a small record
abbrev pub small_said_of : SmallSaid → Said
small_said_of (saids.Played pid choice) = accepted (done.Played pid choice)
small_said_of (saids.Undone pid choice) = accepted (done.Undone pid choice)
small_said_of saids.Plain = accepted done.Plain
small_said_of (saids.Values values) = Answered (answer.Values values.items)
small_said_of (saids.Messages messages) = Answered (answer.Messages messages.items)
small_said_of (saids.Counts counts) = Answered (answer.Counts counts)
small_said_of (saids.PlaceOf at line) = Answered (answer.PlaceOf at line)
small_said_of saids.MayUndo = Answered (answer.CanUndo (Ok tt))
small_said_of (saids.Frontier heads) = Answered (answer.Frontier heads.items)
small_said_of (saids.Apart said) = said.value
