use Rattle.std.proofs.Common.{refl, inl, inr}
use Rattle.ui_repl.proofs.fault_places.tell_refusal.Goals as goal

pub returns-in-Some-clause-written : goal.returns-in-Some-clause-written
returns-in-Some-clause-written g c = record { text = _; form = inr (_, refl); written = c.tell_fault.ensures.written }

pub returns-in-None-clause-written : goal.returns-in-None-clause-written
returns-in-None-clause-written g c = record { text = _; form = inl refl; written = c.tell_no_end_line.ensures.written }
