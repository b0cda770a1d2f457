use Rattle.std.proofs.Common.{◌≡◌, map, take}
use Rattle.dbg_base.specs.Calls.{conjunct_of}
use Rattle.dbg_base.proofs.call.copy_conjuncts.Given as goal

abbrev pub invariant-loop-conjunct : goal.invariant-loop-conjunct
invariant-loop-conjunct l = map conjunct_of l.made.items ≡ map conjunct_of (take l.conjunct-index l.conjunct-items)
