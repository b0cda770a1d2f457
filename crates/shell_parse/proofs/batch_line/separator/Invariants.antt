use Rattle.std.proofs.Common.{◌≡◌, ◌≤◌, drop}
use Rattle.dbg_base.specs.CommandLines.{sets_break}
use Rattle.shell_parse.specs.Lines.{spot_of, depth_of}
use Rattle.shell_parse.proofs.Separators.{Passed}
use Rattle.shell_parse.proofs.batch_line.separator.Given as goal

abbrev pub invariant-loop-n : goal.invariant-loop-n
invariant-loop-n l = record {
  groups : l.grouped ≡ sets_break l.bytes;
  few : depth_of (spot_of l.spot) ≤ l.n;
  passed : Passed l.bytes (drop l.n l.bytes) l.n (spot_of l.spot);
}
