use Rattle.std.proofs.Common.{take}
use Rattle.proc_lang.specs.Indexes.{Finds}
use Rattle.proc_lang.proofs.names.first_places.Given as goal

abbrev pub invariant-loop-i : goal.invariant-loop-i
invariant-loop-i l = Finds l.index (take l.i l.names)
