use Rattle.proc_tree.specs.Programs.{program_of}
use Rattle.test_engine.proofs.crew.desks.no_seats_settle.Given as goal

abbrev pub ghosts-none_differs-L-Ledger : goal.ghosts-none_differs-L-Ledger
ghosts-none_differs-L-Ledger g a = record { name = a.opening.blank.name; parts = a.opening.blank.parts }

abbrev pub ghosts-none_differs-L-Run : goal.ghosts-none_differs-L-Run
ghosts-none_differs-L-Run g a = record { program = program_of a.opening.program; board = a.opening.board; seats = a.opening.blank.parts }
