use Rattle.proc_tree.specs.Programs.{program_of}
use Rattle.test_memory.proofs.full.begin_and_play.Given as goal

abbrev pub ghosts-play-L-Ledger : goal.ghosts-play-L-Ledger
ghosts-play-L-Ledger g a = record { name = a.beginning.opening.blank.name; parts = a.beginning.opening.blank.parts }

abbrev pub ghosts-play-L-Run : goal.ghosts-play-L-Run
ghosts-play-L-Run g a = record { program = program_of a.beginning.opening.program; board = a.beginning.opening.board; seats = 3 }
