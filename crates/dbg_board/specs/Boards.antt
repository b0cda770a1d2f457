-- What contracts see of a board and of its holders.
use Rattle.std.specs.Prelude.{List}
use Rattle.atomic_table.specs.Seated.{TableId}
use Rattle.dbg_board.specs.declared.glance.Glance.{Glance}

-- which board it is
abbrev pub BoardId : Type 0
BoardId = TableId

-- which board, and the pairs that were published to it, or that a view has seen of it
pub record Listing : Type 0 where
  pub board : BoardId
  pub pairs : List Glance

abbrev pub listing : BoardId → List Glance → Listing
listing board pairs = record { board = board; pairs = pairs }
