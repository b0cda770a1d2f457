-- The orders that count, as calls that are made again, and one more order.
use Rattle.std.specs.Prelude.{ℕ, [], ◌∷◌, ◌++◌}
use Rattle.dbg_base.specs.declared.said.Reply.{Reply}
use Rattle.dbg_base.specs.declared.said.Said.TheVariants.{Accepted}
use Rattle.dbg_base.specs.Calls.{Order, Call, Give}
use Rattle.dbg_base.specs.Journals.{Entry, Journal, Given}

-- the seat of an entry, and its call
abbrev pub call_in : Entry → ℕ × Call
call_in entry = (entry.seat, entry.call)

-- the seat that gave an order, and the call that gives it
abbrev pub given_call : Given → ℕ × Call
given_call given = (given.seat, Give given.order)

-- the journal in which a seat then gave this order, which was accepted with this reply
abbrev pub with_order : Journal → ℕ → Order → Reply → Journal
with_order J seat order reply = J ++ record { seat = seat; call = Give order; said = Accepted reply } ∷ []
