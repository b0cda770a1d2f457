use Rattle.proc_tree.specs.Programs.{program_of}
use Rattle.test_engine.proofs.engine.journals.calls_are_entered_and_recorded.Given as goal

abbrev pub ghosts-calls_in_order-L-Ledger : goal.ghosts-calls_in_order-L-Ledger
ghosts-calls_in_order-L-Ledger g a = record { name = a.opening.blank.name; parts = a.opening.blank.parts }

abbrev pub ghosts-calls_in_order-L-Run : goal.ghosts-calls_in_order-L-Run
ghosts-calls_in_order-L-Run g a = record { program = program_of a.opening.program; board = a.opening.board; seats = a.opening.blank.parts }
