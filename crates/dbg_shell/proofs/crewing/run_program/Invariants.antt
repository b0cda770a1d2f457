use Rattle.std.specs.Prelude.{length, min}
use Rattle.proc_tree.specs.Programs.{program_of}
use Rattle.dbg_base.specs.declared.limits.TheConstants.{SEATS}
use Rattle.dbg_shell.proofs.crewing.run_program.Given as goal

abbrev pub ghosts-settle_run-L-Ledger : goal.ghosts-settle_run-L-Ledger
ghosts-settle_run-L-Ledger g a = record { name = a.opening.blank.name; parts = a.opening.blank.parts }

abbrev pub ghosts-settle_run-L-Run : goal.ghosts-settle_run-L-Run
ghosts-settle_run-L-Run g a = record {
  program = program_of a.opening.program;
  board = a.opening.board;
  seats = min (length (program_of a.opening.program)) SEATS;
}
