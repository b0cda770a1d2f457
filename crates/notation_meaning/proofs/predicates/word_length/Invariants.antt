use Rattle.std.proofs.Common.{◌≡◌, ◌+◌, length}
use Rattle.dbg_base.specs.CommandLines.{word_prefix}
use Rattle.notation_meaning.proofs.predicates.word_length.Given as goal

abbrev pub invariant-loop-rest : goal.invariant-loop-rest
invariant-loop-rest l = record {
  passed : l.n + length l.rest ≡ length l.fn.bytes;
  goes_on : length (word_prefix l.fn.bytes) ≡ l.n + length (word_prefix l.rest);
}

abbrev pub decreases-loop-rest : goal.decreases-loop-rest
decreases-loop-rest l = length l.rest
