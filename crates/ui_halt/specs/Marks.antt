-- Marks: runs of events of a process that are shown as one. They are given by the numbers, from 1, of their first events.
use Rattle.std.specs.Prelude.{◌≡◌, ◌↔◌, ℕ, ◌-◌, ◌≤◌, ◌==◌, ◌||◌, Bool, true, false, not, List, Option, Some, None, slice_get}
use Rattle.std.specs.List.{Contains}
use Rattle.event_rows.specs.declared.exchange.Exchange.{Exchange}
use Rattle.event_rows.specs.declared.exchange.Exchange.TheVariants.{Nothing, Sent, Took}
use Rattle.event_rows.specs.EventValues.{EventValue}
use Rattle.ui_halt.specs.Lanes.{true_at}

-- whether an event received a message
abbrev pub is_receive : Exchange → Bool
is_receive Nothing = false
is_receive (Sent target value count) = false
is_receive (Took source message count) = true

abbrev pub receives_if : Option EventValue → Bool
receives_if None = false
receives_if (Some event) = is_receive event.exchange

-- whether the event of this number received one
abbrev pub receives : List EventValue → ℕ → Bool
receives events number = receives_if (slice_get events (number - 1))

abbrev pub differ : Bool → Bool → Bool
differ true b = not b
differ false b = b

-- whether it changes the truth of a part
abbrev pub changes : List Bool → ℕ → Bool
changes truths number = differ (true_at truths number) (true_at truths (number - 1))

-- A mark begins with the first event, with each receive, and with an event that changes the truth of the part, or comes after one that does.
abbrev pub begins : List EventValue → List Bool → ℕ → Bool
begins events truths number =
    (number == 1) || (receives events number || (changes truths number || changes truths (number - 1)))

-- The marks of the first events begin with these, and with no others.
abbrev pub AreStarts : List EventValue → List Bool → ℕ → List ℕ → Type 0
AreStarts events truths count starts =
    (number : ℕ) → Contains starts number ↔ ((1 ≤ number) × (number ≤ count) × (begins events truths number ≡ true))
