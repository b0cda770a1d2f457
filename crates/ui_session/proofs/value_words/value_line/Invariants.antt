use Rattle.ui_session.proofs.ValueLemmas.{ReadsOn}
use Rattle.ui_session.proofs.value_words.value_line.Given as goal

abbrev pub invariant-loop-place : goal.invariant-loop-place
invariant-loop-place l = ReadsOn l.mark l.line l.rest l.read.items
