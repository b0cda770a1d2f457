-- The trees of a program's parts.
use Rattle.std.specs.Prelude.{ℕ, List, map}
use Rattle.dbg_base.specs.Trees as tree
use Rattle.dbg_base.specs.Trees.{tree_of}
use Rattle.proc_tree.specs.declared.process.Action.{Action}
use Rattle.proc_tree.specs.declared.process.Action.TheVariants.{Local, Send, Receive}
use Rattle.proc_tree.specs.declared.process.Assignment.{Assignment}
use Rattle.proc_tree.specs.declared.process.Guarded.{Guarded}
use Rattle.proc_tree.specs.declared.process.Process.{Process}

abbrev pub action_tree : Action → tree.Action
action_tree Local = tree.Local
action_tree (Send target value) = tree.Sends target.0 (tree_of value)
action_tree (Receive source variable) = tree.Receives source.0 variable

abbrev pub assignment_trees : List Assignment → List (ℕ × tree.Tree)
assignment_trees assignments = map (λ a. (a.variable, tree_of a.value)) assignments

abbrev pub command_tree : Guarded → tree.Command
command_tree g = record {
  guard = tree_of g.guard;
  action = action_tree g.action;
  assignments = assignment_trees g.assignments;
}

abbrev pub process_tree : Process → tree.Process
process_tree p = record {
  name = p.name;
  variables = map (λ v. (v.name, v.start)) p.variables.items;
  commands = map command_tree p.commands.items;
}

abbrev pub process_trees : List Process → tree.Program
process_trees = map process_tree
