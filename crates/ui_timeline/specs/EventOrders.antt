-- The orders in which the events of a history can be listed.
use Rattle.std.specs.Prelude.{◌≡◌, ℕ, List, [], ◌++◌, length, map, replicate, reverse}
use Rattle.dbg_base.specs.Trees.{Program}
use Rattle.dbg_base.specs.Histories.{History}
use Rattle.dbg_base.specs.Orders.{Event, IsLegalOrder, choices_of}

-- The processes make the events of the history in this order: they fire one after the other from the start on, and none is left out. So
-- each event occurs once, and none before one that it depends on.
pub record IsEventOrder (P : Program) (H : History) (order : List ℕ) : Type 0 where
  pub events : List Event
  pub processes : map (λ e. e.process) events ≡ order
  pub fires : IsLegalOrder P events
  pub all : choices_of (length P) events ≡ H

-- the history of so many processes that have no events
abbrev pub no_events : ℕ → History
no_events processes = replicate processes []

-- After each order of the events of the first history, the processes can complete the second one in this order, read from its end.
abbrev pub Continues : Program → History → History → List ℕ → Type 0
Continues P before whole back =
    (E : List Event) → IsLegalOrder P E → choices_of (length P) E ≡ before
    → (later : List Event) × (map (λ e. e.process) later ≡ reverse back) × IsLegalOrder P (E ++ later)
    × (choices_of (length P) (E ++ later) ≡ whole)
