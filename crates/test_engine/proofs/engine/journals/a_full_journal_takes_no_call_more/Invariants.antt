use Rattle.proc_tree.specs.Programs.{program_of}
use Rattle.test_engine.proofs.engine.journals.a_full_journal_takes_no_call_more.Given as goal

abbrev pub ghosts-no_call_more-L-Ledger : goal.ghosts-no_call_more-L-Ledger
ghosts-no_call_more-L-Ledger g a = record { name = a.opening.blank.name; parts = a.opening.blank.parts }

abbrev pub ghosts-no_call_more-L-Run : goal.ghosts-no_call_more-L-Run
ghosts-no_call_more-L-Run g a = record { program = program_of a.opening.program; board = a.opening.board; seats = a.opening.blank.parts }
