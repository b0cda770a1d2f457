use Rattle.std.proofs.Common.{◌≡◌, ◌≤◌, map, take, drop, vec_len}
use Rattle.dbg_base.specs.declared.limits.TheConstants.{COMMANDS}
use Rattle.dbg_base.specs.Checks.{commands_faults}
use Rattle.dbg_base.specs.Checks as model
use Rattle.proc_tree.specs.ProcessTrees.{command_tree}
use Rattle.proc_lang.specs.Writing.{command_of}
use Rattle.proc_lang.specs.Scopes.{scope_of}
use Rattle.proc_lang.proofs.check.commands.Given as goal

abbrev pub invariant-loop-i : goal.invariant-loop-i
invariant-loop-i l = record {
  len : vec_len l.commands ≡ l.i;
  few : l.i ≤ COMMANDS;
  left : commands_faults (scope_of l.scope) 0 (map command_of l.written)
      ≡ commands_faults (scope_of l.scope) l.i (map command_of (drop l.i l.written));
  read : map command_tree l.commands.items ≡ map (model.command_tree (scope_of l.scope)) (map command_of (take l.i l.written));
}
