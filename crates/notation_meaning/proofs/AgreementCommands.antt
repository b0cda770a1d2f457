-- Commands, whose lists are known by their lengths, or by an element and the rest.
use Rattle.std.proofs.Common.{◌≡◌, List, ◌∷◌, length}
use Rattle.std.proofs.lemmas.List.{nil_from_length}
use Rattle.dbg_base.specs.Trees.{tree_of}
use Rattle.proc_tree.specs.declared.process.Assignment.{Assignment}
use Rattle.proc_tree.specs.ProcessTrees.{assignment_trees}
use Rattle.notation_tree.specs.declared.syntax.AssignmentNode.{AssignmentNode}
use Rattle.notation_meaning.specs.ModelScopes.{Scope}
use Rattle.notation_meaning.specs.PlainExpressions.{Setting, Names, Means}
use Rattle.notation_meaning.specs.ModelPrograms.{AssignmentsOf, no_assignments, more_assignments}

pub assignments_end : (S : Setting) (s : Scope) (nodes : List AssignmentNode) (found : List Assignment) → length nodes ≡ 0
    → length found ≡ 0 → AssignmentsOf S s nodes (assignment_trees found)
assignments_end S s nodes found e f = rw (nil_from_length nodes e, nil_from_length found f) no_assignments

pub assignments_step : (S : Setting) (s : Scope) (nodes others : List AssignmentNode) (found rest : List Assignment) (node : AssignmentNode)
    (first : Assignment) → nodes ≡ node ∷ others → found ≡ first ∷ rest
    → Names S.context s node.target S.variables first.variable → Means S s node.value (tree_of first.value)
    → AssignmentsOf S s others (assignment_trees rest) → AssignmentsOf S s nodes (assignment_trees found)
assignments_step S s nodes others found rest node first e f names means rule = rw (e, f) (more_assignments names means rule)
