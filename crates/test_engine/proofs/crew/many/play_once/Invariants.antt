use Rattle.proc_tree.specs.Programs.{program_of}
use Rattle.test_engine.proofs.crew.many.play_once.Given as goal

abbrev pub ghosts-many_calls-L-Ledger : goal.ghosts-many_calls-L-Ledger
ghosts-many_calls-L-Ledger g a = record { name = a.opening.blank.name; parts = a.opening.blank.parts }

abbrev pub ghosts-many_calls-L-Run : goal.ghosts-many_calls-L-Run
ghosts-many_calls-L-Run g a = record { program = program_of a.opening.program; board = a.opening.board; seats = a.opening.blank.parts }
