use Rattle.std.proofs.Common.{arith}
use Rattle.dbg_base.proofs.PaddedNameLemmas.{padded}
use Rattle.dbg_base.proofs.name.Name.new.Goals as goal

pub invariant_of-result : goal.invariant_of-result
invariant_of-result c =
    let bytes = c.args.bytes.now in
    rw c.copy_from_slice.ensures.after (padded bytes (grind arith) (omega arith))
