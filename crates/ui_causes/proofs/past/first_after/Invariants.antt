use Rattle.std.proofs.Common.{◌+◌}
use Rattle.ui_causes.proofs.CausalPastLemmas.{NoneBefore}
use Rattle.ui_causes.proofs.past.first_after.Given as goal

abbrev pub invariant-loop-earlier : goal.invariant-loop-earlier
invariant-loop-earlier l = NoneBefore l.world l.event l.pid.0 (l.earlier + 1)
