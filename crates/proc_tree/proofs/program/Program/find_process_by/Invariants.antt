use Rattle.std.proofs.Common.{◌≡◌}
use Rattle.dbg_base.specs.Names.{place_of}
use Rattle.dbg_base.specs.Trees.{names_of}
use Rattle.proc_tree.specs.Programs.{program_of}
use Rattle.proc_tree.proofs.ProcessSearchLemmas.{search_from}
use Rattle.proc_tree.proofs.program.Program.find_process_by.Given as goal

abbrev pub invariant-loop-i : goal.invariant-loop-i
invariant-loop-i l = place_of l.name (names_of (program_of l.self)) ≡ search_from l.i l.name l.self.processes.items
