-- The parts from which a run is opened.
use Rattle.std.specs.Prelude.{◌≡◌, ℕ}
use Rattle.dbg_base.specs.Trees.{Program}
use Rattle.dbg_board.specs.Boards.{BoardId}
use Rattle.proc_tree.specs.Programs.{program_of}
use Rattle.dbg_desk.specs.declared.opening.Opening.{Opening}

-- A run of this program, board and ledger, with so many seats, is opened from these parts.
pub record IsOpeningOf (P : Program) (id : BoardId) (ledger ledger_parts many : ℕ) (opening : Opening) : Type 0 where
  pub program : program_of opening.program ≡ P
  pub board : opening.board ≡ id
  pub name : opening.blank.name ≡ ledger
  pub parts : opening.blank.parts ≡ ledger_parts
  pub seats : opening.blank.parts ≡ many
