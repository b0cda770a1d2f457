use Rattle.proc_tree.specs.Programs.{program_of}
use Rattle.dbg_base.specs.declared.limits.TheConstants.{SEATS}
use Rattle.shell_serve.proofs.running.run_program.Given as goal

abbrev pub ghosts-begin-L-Ledger : goal.ghosts-begin-L-Ledger
ghosts-begin-L-Ledger g a = record { name = a.opening.blank.name; parts = a.opening.blank.parts }

abbrev pub ghosts-begin-L-Run : goal.ghosts-begin-L-Run
ghosts-begin-L-Run g a = record { program = program_of a.opening.program; board = a.opening.board; seats = SEATS }
