-- The log of a history: its events with their clocks, and what each of them did.
use Rattle.std.specs.Prelude.{◌≡◌, ◌≢◌, ℕ, List, [], ◌∷◌, ◌++◌, map, length, nat_lt, slice_index, codes}
use Rattle.std.specs.List.{All, filter, flat_map, range_with_len}
use Rattle.std.specs.Fmt.{decimal}
use Rattle.dbg_base.specs.Trees.{Program}
use Rattle.dbg_base.specs.Histories.{History}
use Rattle.dbg_base.specs.Replies.{name_of}
use Rattle.dbg_base.specs.Shell.{as_line}
use Rattle.ui_timeline.specs.declared.timed.TimedEvent.{TimedEvent}
use Rattle.ui_timeline.specs.TimedEvents.{AreTimedEvents}

-- texts, each with a comma before it
abbrev pub after_commas : List (List ℕ) → List ℕ
after_commas texts = flat_map (λ text. codes "," ++ text) texts

-- texts, with a comma between each and the next
abbrev pub listed : List (List ℕ) → List ℕ
listed [] = []
listed (text ∷ texts) = text ++ after_commas texts

-- the processes of which a clock counts at least one event, in the order of the program
abbrev pub counted : Program → List ℕ → List ℕ
counted P clock = filter (λ p. nat_lt 0 (slice_index clock p)) (range_with_len 0 (length P))

-- the name of a process, and how many of its events the clock counts
abbrev pub count_text : Program → List ℕ → ℕ → List ℕ
count_text P clock p = codes "\"" ++ name_of P p ++ codes "\":" ++ decimal (slice_index clock p)

-- a clock as an object of JSON
abbrev pub clock_text : Program → List ℕ → List ℕ
clock_text P clock = codes "{" ++ listed (map (count_text P clock) (counted P clock)) ++ codes "}"

-- an event, and what it did in words
pub record Entry : Type 0 where
  pub event : TimedEvent
  pub words : List ℕ

-- a line with the process and the clock, and a line with the words
abbrev pub entry_text : Program → Entry → List ℕ
entry_text P entry =
    as_line (name_of P entry.event.pid.0 ++ codes " " ++ clock_text P entry.event.clock) ++ as_line entry.words

-- this text has no line end
abbrev pub IsOneLine : List ℕ → Type 0
IsOneLine text = All (λ byte. byte ≢ 10) text

-- The text is a log of the history: entries of its events, one after the other, each event once and none before one that it depends on.
pub record IsLog (P : Program) (H : History) (text : List ℕ) : Type 0 where
  pub entries : List Entry
  pub events : AreTimedEvents P H (map (λ entry. entry.event) entries)
  pub words : All (λ entry. IsOneLine entry.words) entries
  pub whole : text ≡ flat_map (entry_text P) entries
