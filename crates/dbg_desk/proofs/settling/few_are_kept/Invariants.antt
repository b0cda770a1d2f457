use Rattle.dbg_desk.proofs.JournalSearchLemmas.{AreKept}
use Rattle.dbg_desk.proofs.settling.few_are_kept.Given as goal

abbrev pub invariant-loop-entry : goal.invariant-loop-entry
invariant-loop-entry g l = AreKept l.journal l.seats l.entry-index l.found
