use Rattle.std.proofs.Common.{List, map, ap, ◌∙◌, take_all}
use Rattle.dbg_base.specs.declared.call.Conjunct.{Conjunct}
use Rattle.dbg_base.specs.Calls.{conjunct_of}
use Rattle.least_cut.specs.Watches.{scan_of}
use Rattle.least_cut.proofs.scan.Scan.of.Goals as goal

pub returns-clause-scan : goal.returns-clause-scan
returns-clause-scan c =
    c.loop-conjunct.invariant ∙ ap (λ (l : List Conjunct). scan_of c.args.world.now (map conjunct_of l))
    (take_all c.loop-conjunct.conjunct-index c.args.conjuncts.now c.loop-conjunct-test.false)
