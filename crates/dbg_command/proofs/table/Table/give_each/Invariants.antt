use Rattle.proc_tree.specs.Programs.{program_of}
use Rattle.dbg_command.specs.Tables.{IsTableOf, state_of}
use Rattle.dbg_command.proofs.BatchLemmas.{GoesOn}
use Rattle.dbg_command.proofs.table.Table.give_each.Given as goal

abbrev pub invariant-loop-i : goal.invariant-loop-i
invariant-loop-i l = record {
  of : IsTableOf (program_of l.program) l.self;
  goes : GoesOn (program_of l.program) (state_of l.fn.self) l.plans l.i (state_of l.self);
}
