-- What contracts see of a tally, and how many messages the events of a process send and receive.
use Rattle.std.specs.Prelude.{ℕ, List, [], take, slice_index_or}
use Rattle.std.specs.List.{count_by}
use Rattle.cut_core.specs.declared.kind.Kind.{Kind}
use Rattle.cut_core.specs.Kinds.{sends_to, gets_from}

-- what the events of one process did, in order, and how many more fit without allocation
pub record HistoryState : Type 0 where
  pub kinds : List Kind
  pub room : ℕ

-- the same for each process
pub record TallyState : Type 0 where
  pub kinds : List (List Kind)
  pub room : List ℕ

-- how many of the first n events of process i send to process j
abbrev pub sent_by : List (List Kind) → ℕ → ℕ → ℕ → ℕ
sent_by kinds i j n = count_by (sends_to j) (take n (slice_index_or kinds i []))

-- how many of the first n events of process j receive from process i
abbrev pub got_by : List (List Kind) → ℕ → ℕ → ℕ → ℕ
got_by kinds j i n = count_by (gets_from i) (take n (slice_index_or kinds j []))
