use Rattle.proc_tree.specs.Programs.{program_of}
use Rattle.ui_diagram.proofs.LogLemmas.{AreWritten}
use Rattle.ui_diagram.proofs.log.write_log.Given as goal

abbrev pub invariant-loop-event : goal.invariant-loop-event
invariant-loop-event l = AreWritten (program_of l.view.program.now) l.event-items l.event-index l.text.items
