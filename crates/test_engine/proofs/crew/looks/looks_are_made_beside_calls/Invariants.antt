use Rattle.proc_tree.specs.Programs.{program_of}
use Rattle.test_engine.proofs.crew.looks.looks_are_made_beside_calls.Given as goal

abbrev pub ghosts-looks_beside_calls-L-Ledger : goal.ghosts-looks_beside_calls-L-Ledger
ghosts-looks_beside_calls-L-Ledger g a = record { name = a.opening.blank.name; parts = a.opening.blank.parts }

abbrev pub ghosts-looks_beside_calls-L-Run : goal.ghosts-looks_beside_calls-L-Run
ghosts-looks_beside_calls-L-Run g a = record { program = program_of a.opening.program; board = a.opening.board; seats = a.opening.blank.parts }
