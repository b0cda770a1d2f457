use Rattle.ui_halt.proofs.ReasonLemmas.{NoneNeeds}
use Rattle.ui_halt.proofs.reason.find_reason.Given as goal

abbrev pub invariant-loop-q : goal.invariant-loop-q
invariant-loop-q l = NoneNeeds l.world l.earlier l.cut l.q
