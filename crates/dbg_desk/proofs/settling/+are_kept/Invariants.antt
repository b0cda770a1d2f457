use Rattle.std.proofs.Common.{length}
use Rattle.dbg_desk.proofs.settling.+are_kept.Given as goal

abbrev pub decreases-are_kept : goal.decreases-are_kept
decreases-are_kept g l = length l.seats.now
