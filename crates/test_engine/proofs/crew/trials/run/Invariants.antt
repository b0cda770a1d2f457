use Rattle.proc_tree.specs.Programs.{program_of}
use Rattle.test_engine.proofs.crew.trials.run.Given as goal

abbrev pub ghosts-each_call_is_shown-L-Ledger : goal.ghosts-each_call_is_shown-L-Ledger
ghosts-each_call_is_shown-L-Ledger g a = record { name = a.opening.blank.name; parts = a.opening.blank.parts }

abbrev pub ghosts-each_call_is_shown-L-Run : goal.ghosts-each_call_is_shown-L-Run
ghosts-each_call_is_shown-L-Run g a = record { program = program_of a.opening.program; board = a.opening.board; seats = a.opening.blank.parts }

abbrev pub ghosts-the_scan_meets-L-Ledger : goal.ghosts-the_scan_meets-L-Ledger
ghosts-the_scan_meets-L-Ledger g a = record { name = a.opening.blank.name; parts = a.opening.blank.parts }

abbrev pub ghosts-the_scan_meets-L-Run : goal.ghosts-the_scan_meets-L-Run
ghosts-the_scan_meets-L-Run g a = record { program = program_of a.opening.program; board = a.opening.board; seats = a.opening.blank.parts }

abbrev pub ghosts-said_at_a_desk-L-Ledger : goal.ghosts-said_at_a_desk-L-Ledger
ghosts-said_at_a_desk-L-Ledger g a = record { name = a.opening.blank.name; parts = a.opening.blank.parts }

abbrev pub ghosts-said_at_a_desk-L-Run : goal.ghosts-said_at_a_desk-L-Run
ghosts-said_at_a_desk-L-Run g a = record { program = program_of a.opening.program; board = a.opening.board; seats = a.opening.blank.parts }

abbrev pub ghosts-said_under_lock-L-Ledger : goal.ghosts-said_under_lock-L-Ledger
ghosts-said_under_lock-L-Ledger g a = record { name = a.opening.blank.name; parts = a.opening.blank.parts }

abbrev pub ghosts-said_under_lock-L-Run : goal.ghosts-said_under_lock-L-Run
ghosts-said_under_lock-L-Run g a = record { program = program_of a.opening.program; board = a.opening.board; seats = a.opening.blank.parts }
