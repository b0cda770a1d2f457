use Rattle.proc_tree.specs.Programs.{program_of}
use Rattle.test_engine.proofs.crew.desks.a_call_sees_what_was_answered_before.Given as goal

abbrev pub ghosts-one_sees_the_other-L-Ledger : goal.ghosts-one_sees_the_other-L-Ledger
ghosts-one_sees_the_other-L-Ledger g a = record { name = a.opening.blank.name; parts = a.opening.blank.parts }

abbrev pub ghosts-one_sees_the_other-L-Run : goal.ghosts-one_sees_the_other-L-Run
ghosts-one_sees_the_other-L-Run g a = record { program = program_of a.opening.program; board = a.opening.board; seats = a.opening.blank.parts }
