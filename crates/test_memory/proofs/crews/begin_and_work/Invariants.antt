use Rattle.proc_tree.specs.Programs.{program_of}
use Rattle.test_memory.proofs.crews.begin_and_work.Given as goal

abbrev pub ghosts-work-L-Ledger : goal.ghosts-work-L-Ledger
ghosts-work-L-Ledger g a = record { name = a.beginning.opening.blank.name; parts = a.beginning.opening.blank.parts }

abbrev pub ghosts-work-L-Run : goal.ghosts-work-L-Run
ghosts-work-L-Run g a = record { program = program_of a.beginning.opening.program; board = a.beginning.opening.board; seats = 3 }
