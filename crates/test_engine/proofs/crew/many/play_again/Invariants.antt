use Rattle.proc_tree.specs.Programs.{program_of}
use Rattle.test_engine.proofs.crew.many.play_again.Given as goal

abbrev pub ghosts-expect_again-L-Ledger : goal.ghosts-expect_again-L-Ledger
ghosts-expect_again-L-Ledger g a = record { name = a.opening.blank.name; parts = a.opening.blank.parts }

abbrev pub ghosts-expect_again-L-Run : goal.ghosts-expect_again-L-Run
ghosts-expect_again-L-Run g a = record { program = program_of a.opening.program; board = a.opening.board; seats = a.opening.blank.parts }
