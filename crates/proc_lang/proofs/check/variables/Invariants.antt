use Rattle.std.proofs.Common.{◌≡◌, ◌≤◌, [], map, take, vec_len}
use Rattle.dbg_base.specs.declared.limits.TheConstants.{VARIABLES}
use Rattle.dbg_base.specs.Checks.{variables_faults}
use Rattle.proc_lang.specs.Writing.{variable_of}
use Rattle.proc_lang.specs.Checking.{starts, written_starts}
use Rattle.proc_lang.proofs.ListCheckLemmas.{variables_left}
use Rattle.proc_lang.proofs.check.variables.Given as goal

abbrev pub invariant-loop-i : goal.invariant-loop-i
invariant-loop-i l = record {
  len : vec_len l.variables ≡ l.i;
  few : l.i ≤ VARIABLES;
  left : variables_faults [] (map variable_of l.written) ≡ variables_left l.names l.i l.written;
  read : starts l.variables.items ≡ written_starts (take l.i l.written);
}
