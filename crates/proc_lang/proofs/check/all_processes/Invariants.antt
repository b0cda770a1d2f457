use Rattle.std.proofs.Common.{◌≡◌, ◌≤◌, [], map, take, vec_len}
use Rattle.dbg_base.specs.declared.limits.TheConstants.{PROCESSES}
use Rattle.dbg_base.specs.Checks.{processes_faults}
use Rattle.dbg_base.specs.Checks as model
use Rattle.proc_tree.specs.ProcessTrees.{process_trees}
use Rattle.proc_lang.specs.Writing.{processes_of}
use Rattle.proc_lang.proofs.ListCheckLemmas.{processes_left}
use Rattle.proc_lang.proofs.check.all_processes.Given as goal

abbrev pub invariant-loop-i : goal.invariant-loop-i
invariant-loop-i l = record {
  len : vec_len l.processes ≡ l.i;
  few : l.i ≤ PROCESSES;
  left : processes_faults l.names.all.now [] (processes_of l.written) ≡ processes_left l.names.all.now l.i l.written;
  read : process_trees l.processes.items ≡ map (model.process_tree l.names.all.now) (processes_of (take l.i l.written));
}
