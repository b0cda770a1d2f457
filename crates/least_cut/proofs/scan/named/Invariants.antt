use Rattle.std.proofs.Common.{◌≡◌, map, take}
use Rattle.dbg_base.specs.Calls.{conjunct_of}
use Rattle.least_cut.specs.Watches.{named_in}
use Rattle.least_cut.proofs.scan.named.Given as goal

abbrev pub invariant-loop-conjunct : goal.invariant-loop-conjunct
invariant-loop-conjunct l = map named_in l.named.items ≡ map conjunct_of (take l.conjunct-index l.conjuncts)
