use Rattle.proc_tree.specs.Programs.{program_of}
use Rattle.test_engine.proofs.crew.desks.a_look_sees_the_calls_of_all_seats.Given as goal

abbrev pub ghosts-each_sees_all-L-Ledger : goal.ghosts-each_sees_all-L-Ledger
ghosts-each_sees_all-L-Ledger g a = record { name = a.opening.blank.name; parts = a.opening.blank.parts }

abbrev pub ghosts-each_sees_all-L-Run : goal.ghosts-each_sees_all-L-Run
ghosts-each_sees_all-L-Run g a = record { program = program_of a.opening.program; board = a.opening.board; seats = a.opening.blank.parts }
