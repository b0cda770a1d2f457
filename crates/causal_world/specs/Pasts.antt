-- What each event sent or received, and the clocks that follow from it.
use Rattle.std.specs.Prelude.{◌≡◌, ◌≢◌, ℕ, ◌+◌, ◌-◌, ◌<◌, ◌≤◌, List, [], ◌∷◌, ◌++◌, length, map, Option, Some, None}
use Rattle.std.specs.Prelude.{slice_get, slice_index, slice_index_or, slice_set}
use Rattle.dbg_base.specs.Trees.{Action, Local, Sends, Receives, Command, Program, command_of}
use Rattle.dbg_base.specs.LocalStates.{LocalState}
use Rattle.dbg_base.specs.Histories.{History}
use Rattle.dbg_base.specs.Cuts.{IsAtMost}
use Rattle.dbg_base.specs.Reversal.{without_back}
use Rattle.cut_core.specs.declared.kind.Kind.{Kind}
use Rattle.cut_core.specs.declared.kind.Kind.TheVariants as does
use Rattle.cut_core.specs.Tallies.{sent_by, got_by}
use Rattle.cut_core.specs.ConsistentCuts.{IsConsistentCut, places}
use Rattle.event_rows.specs.declared.exchange.Exchange.{Exchange}
use Rattle.event_rows.specs.EventValues.{EventValue}
use Rattle.event_rows.specs.declared.exchange.Exchange.TheVariants.{Nothing, Sent, Took}

-- what a command does to messages
abbrev pub kind_of_action : Action → Kind
kind_of_action Local = does.Local
kind_of_action (Sends target value) = does.Sent (record { 0 = target })
kind_of_action (Receives source variable) = does.Got (record { 0 = source })

abbrev pub kind_of_command : Option Command → Kind
kind_of_command None = does.Local
kind_of_command (Some command) = kind_of_action command.action

-- what choice k of process p does to messages
abbrev pub kind_at : Program → ℕ → ℕ → Kind
kind_at P p k = kind_of_command (command_of P p k)

-- the same for each choice of a history, whose first process has the number p
abbrev pub kinds_from : Program → ℕ → History → List (List Kind)
kinds_from P p [] = []
kinds_from P p (choices ∷ H) = map (kind_at P p) choices ∷ kinds_from P (p + 1) H

abbrev pub kinds_of : Program → History → List (List Kind)
kinds_of P H = kinds_from P 0 H

-- what an event did to messages
abbrev pub kind_done : Exchange → Kind
kind_done Nothing = does.Local
kind_done (Sent target value count) = does.Sent target
kind_done (Took source message count) = does.Got source

-- the kinds with one more event of process p
abbrev pub with_kind : List (List Kind) → ℕ → Kind → List (List Kind)
with_kind kinds p kind = slice_set kinds p (slice_index_or kinds p [] ++ kind ∷ [])

-- the kinds without the last event of process p
abbrev pub without_kind : List (List Kind) → ℕ → List (List Kind)
without_kind kinds p = slice_set kinds p (without_back (slice_index_or kinds p []))

-- all events are a consistent cut
abbrev pub IsWhole : List (List Kind) → Type 0
IsWhole kinds = IsConsistentCut kinds (places kinds)

-- The clock of process p at its n-th event: the least consistent cut with at least n of its events.
pub record IsClockOf (kinds : List (List Kind)) (p n : ℕ) (cut : List ℕ) : Type 0 where
  pub consistent : IsConsistentCut kinds cut
  pub reaches : n ≤ slice_index cut p
  pub least : (other : List ℕ) → IsConsistentCut kinds other → n ≤ slice_index other p → IsAtMost cut other

-- the n-th row of process p
abbrev pub row_at : List (List (List ℕ)) → ℕ → ℕ → List ℕ
row_at clocks p n = slice_index_or (slice_index_or clocks p []) n []

-- the rows without the last one of process p
abbrev pub without_row : List (List (List ℕ)) → ℕ → List (List (List ℕ))
without_row clocks p = slice_set clocks p (without_back (slice_index_or clocks p []))

-- Each process has a row before its first event and one after each event, and each row is the clock there.
pub record AreClocksOf (kinds : List (List Kind)) (clocks : List (List (List ℕ))) : Type 0 where
  pub processes : length clocks ≡ length kinds
  pub sizes : (p : ℕ) → p < length kinds → length (slice_index_or clocks p []) ≡ length (slice_index_or kinds p []) + 1
  pub rows : (p n : ℕ) → p < length kinds → n ≤ length (slice_index_or kinds p []) → IsClockOf kinds p n (row_at clocks p n)

-- Event m of the existing process s sent the message that process p receives next from it.
pub record IsSender (kinds : List (List Kind)) (p s m : ℕ) : Type 0 where
  pub here : s < length kinds
  pub first : 1 ≤ m
  pub within : m ≤ length (slice_index_or kinds s [])
  pub sends : slice_get (slice_index_or kinds s []) (m - 1) ≡ Some (does.Sent (record { 0 = p }))
  pub count : sent_by kinds s p m ≡ got_by kinds p s (length (slice_index_or kinds p [])) + 1

-- it is the last event of process p
abbrev pub IsOwnLast : List (List Kind) → ℕ → ℕ → ℕ → Type 0
IsOwnLast kinds p q m = (q ≡ p) × (m ≡ length (slice_index_or kinds p []))

-- Event m of process q is the one whose clock the next event of process p, of this kind, joins with its own. For a receive from another
-- process it is the event that sent the message. Otherwise it is the last event of process p.
abbrev pub IsCause : List (List Kind) → ℕ → Kind → ℕ → ℕ → Type 0
IsCause kinds p (does.Got source) q m =
    (source.0 ≡ p → IsOwnLast kinds p q m) × (source.0 ≢ p → (q ≡ source.0) × IsSender kinds p source.0 m)
IsCause kinds p kind q m = IsOwnLast kinds p q m

-- what is kept of each process: its start, its events, what they did to messages, the clock after each, and how many more events fit
-- without allocation
pub record PastState : Type 0 where
  pub starts : List LocalState
  pub events : List (List EventValue)
  pub kinds : List (List Kind)
  pub clocks : List (List (List ℕ))
  pub event_room : List ℕ
  pub kind_room : List ℕ
  pub clock_room : List ℕ

-- both are equal but for their room
pub record IsSamePast (old new : PastState) : Type 0 where
  pub starts : new.starts ≡ old.starts
  pub events : new.events ≡ old.events
  pub kinds : new.kinds ≡ old.kinds
  pub clocks : new.clocks ≡ old.clocks

-- What is kept of the same events agrees, and no message was received that was not sent.
pub record IsPast (events : List (List EventValue)) (kinds : List (List Kind)) (clocks : List (List (List ℕ))) : Type 0 where
  pub sizes : map (λ own. length own) events ≡ places kinds
  pub whole : IsWhole kinds
  pub rows : AreClocksOf kinds clocks

-- there is room for n more events of process p
pub record HasRoomFor (past : PastState) (p n : ℕ) : Type 0 where
  pub event : n ≤ slice_index past.event_room p
  pub kind : n ≤ slice_index past.kind_room p
  pub clock : n ≤ slice_index past.clock_room p
