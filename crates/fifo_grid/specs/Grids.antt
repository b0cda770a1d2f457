-- The messages on their way between processes.
use Rattle.std.specs.Prelude.{ℕ, ℤ, List, [], slice_index_or, slice_set}

-- for each ordered pair of processes the messages from the first to the second, the head first, and how many more fit without allocation
pub record GridState : Type 0 where
  pub channels : List (List (List ℤ))
  pub room : List (List ℕ)

-- the messages from process i to process j
abbrev pub messages_at : List (List (List ℤ)) → ℕ → ℕ → List ℤ
messages_at channels i j = slice_index_or (slice_index_or channels i []) j []

-- the channels with other messages from process i to process j
abbrev pub with_messages : List (List (List ℤ)) → ℕ → ℕ → List ℤ → List (List (List ℤ))
with_messages channels i j messages = slice_set channels i (slice_set (slice_index_or channels i []) j messages)

-- how many more messages from process i to process j fit without allocation
abbrev pub room_at : List (List ℕ) → ℕ → ℕ → ℕ
room_at room i j = slice_index_or (slice_index_or room i []) j 0

-- the rooms with room for so many from process i to process j
abbrev pub with_room : List (List ℕ) → ℕ → ℕ → ℕ → List (List ℕ)
with_room room i j more = slice_set room i (slice_set (slice_index_or room i []) j more)
