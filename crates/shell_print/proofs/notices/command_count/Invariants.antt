use Rattle.std.proofs.Common.{◌≡◌, ◌*◌, ◌≤◌, take}
use Rattle.proc_tree.specs.Programs.{program_of}
use Rattle.dbg_base.specs.declared.limits.TheConstants.{COMMANDS}
use Rattle.shell_print.specs.Closings.{command_count}
use Rattle.shell_print.proofs.notices.command_count.Given as goal

abbrev pub invariant-loop-p : goal.invariant-loop-p
invariant-loop-p l = record {
  few : l.count ≤ COMMANDS * l.p;
  counted : l.count ≡ command_count (take l.p (program_of l.program));
}
