-- The tree of a program of the code.
use Rattle.dbg_base.specs.Trees as tree
use Rattle.proc_tree.specs.ProcessTrees.{process_trees}
use Rattle.proc_tree.specs.declared.program.Program.{Program}

abbrev pub program_of : Program → tree.Program
program_of P = process_trees P.processes.items
