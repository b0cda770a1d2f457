use Rattle.std.proofs.Common.{◌≡◌, drop}
use Rattle.dbg_base.specs.Firing.{assigned, effect_with}
use Rattle.proc_tree.specs.ProcessTrees.{assignment_trees}
use Rattle.local_eval.proofs.change.assign.Given as goal

abbrev pub invariant-loop-assignment : goal.invariant-loop-assignment
invariant-loop-assignment g l =
    effect_with l.fn.sets.items l.message (assigned (assignment_trees l.assignments) (g.L.Local.state l.local))
    ≡ effect_with l.sets.items l.message (assigned (assignment_trees (drop l.assignment-index l.assignments)) (g.L.Local.state l.local))
