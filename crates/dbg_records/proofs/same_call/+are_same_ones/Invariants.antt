use Rattle.std.proofs.Common.{length}
use Rattle.dbg_records.proofs.same_call.+are_same_ones.Given as goal

abbrev pub decreases-are_same_ones : goal.decreases-are_same_ones
decreases-are_same_ones l = length l.left.now
