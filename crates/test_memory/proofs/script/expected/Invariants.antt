use Rattle.proc_tree.specs.Programs.{program_of}
use Rattle.test_memory.proofs.script.expected.Given as goal

abbrev pub ghosts-picture_of-L-Ledger : goal.ghosts-picture_of-L-Ledger
ghosts-picture_of-L-Ledger g a = record { name = a.beginning.opening.blank.name; parts = a.beginning.opening.blank.parts }

abbrev pub ghosts-picture_of-L-Run : goal.ghosts-picture_of-L-Run
ghosts-picture_of-L-Run g a = record { program = program_of a.beginning.opening.program; board = a.beginning.opening.board; seats = 3 }
