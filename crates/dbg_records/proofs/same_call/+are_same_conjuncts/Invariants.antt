use Rattle.std.proofs.Common.{length}
use Rattle.dbg_records.proofs.same_call.+are_same_conjuncts.Given as goal

abbrev pub decreases-are_same_conjuncts : goal.decreases-are_same_conjuncts
decreases-are_same_conjuncts l = length l.left.now
