use Rattle.std.proofs.Common.{◌≡◌, map, take}
use Rattle.dbg_base.specs.Checks.{assignment_faults, set_by_action, assignment_tree}
use Rattle.proc_lang.specs.Writing.{action_of, assignment_of}
use Rattle.proc_tree.specs.ProcessTrees.{assignment_trees}
use Rattle.proc_lang.specs.Scopes.{scope_of}
use Rattle.proc_lang.proofs.ListCheckLemmas.{assignments_left}
use Rattle.proc_lang.proofs.check.assignments.Given as goal

abbrev pub invariant-loop-i : goal.invariant-loop-i
invariant-loop-i l = record {
  left : assignment_faults (scope_of l.scope) (set_by_action (action_of l.written.action)) (map assignment_of l.all)
      ≡ assignments_left (scope_of l.scope) (set_by_action (action_of l.written.action)) l.i l.all;
  read : assignment_trees l.assignments.items ≡ map (assignment_tree (scope_of l.scope)) (map assignment_of (take l.i l.all));
}
