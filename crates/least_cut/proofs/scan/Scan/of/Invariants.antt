use Rattle.std.proofs.Common.{◌≡◌, map, take}
use Rattle.dbg_base.specs.Calls.{conjunct_of}
use Rattle.least_cut.specs.Watches.{scan_of}
use Rattle.least_cut.proofs.scan.Scan.of.Given as goal

abbrev pub invariant-loop-conjunct : goal.invariant-loop-conjunct
invariant-loop-conjunct l = map (λ t. t.line) l.lines.items ≡ scan_of l.world (map conjunct_of (take l.conjunct-index l.conjuncts))
