use Rattle.std.proofs.Common.{◌≡◌, ◌+◌, ◌≤◌, length}
use Rattle.dbg_base.specs.CommandLines.{closed_prefix}
use Rattle.notation_meaning.proofs.predicates.closed_length.Given as goal

abbrev pub invariant-loop-rest : goal.invariant-loop-rest
invariant-loop-rest l = record {
  few : l.depth ≤ l.n;
  passed : l.n + length l.rest ≡ length l.fn.bytes;
  closes : length (closed_prefix 0 l.fn.bytes) ≡ l.n + length (closed_prefix l.depth l.rest);
}

abbrev pub decreases-loop-rest : goal.decreases-loop-rest
decreases-loop-rest l = length l.rest
