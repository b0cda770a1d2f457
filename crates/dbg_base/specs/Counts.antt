-- How many messages the choices of a history send and receive.
use Rattle.std.specs.Prelude.{ℕ, Bool, false, ◌==◌, [], take, Option, Some, None, slice_index_or}
use Rattle.std.specs.List.{count_by}
use Rattle.dbg_base.specs.Trees.{Program, command_of}
use Rattle.dbg_base.specs.Histories.{History}
use Rattle.dbg_base.specs.Orders.{target_in, source_in}

-- whether it is this process
abbrev pub is_process : ℕ → Option ℕ → Bool
is_process p None = false
is_process p (Some q) = q == p

-- whether choice k of process i sends to process j
abbrev pub sends_to : Program → ℕ → ℕ → ℕ → Bool
sends_to P i j k = is_process j (target_in (command_of P i k))

-- whether choice k of process j receives from process i
abbrev pub receives_from : Program → ℕ → ℕ → ℕ → Bool
receives_from P j i k = is_process i (source_in (command_of P j k))

-- how many of the first n choices of process i send to process j
abbrev pub sent : Program → History → ℕ → ℕ → ℕ → ℕ
sent P H i j n = count_by (sends_to P i j) (take n (slice_index_or H i []))

-- how many of the first n choices of process j receive from process i
abbrev pub got : Program → History → ℕ → ℕ → ℕ → ℕ
got P H j i n = count_by (receives_from P j i) (take n (slice_index_or H j []))
