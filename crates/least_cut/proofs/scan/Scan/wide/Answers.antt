use Rattle.std.proofs.Common.{List, map, ap, ◌∙◌}
use Rattle.dbg_base.specs.declared.expr.Expr.{Expr}
use Rattle.dbg_base.specs.declared.ids.Pid.{Pid}
use Rattle.std.specs.Borrow.{Bor}
use Rattle.dbg_base.specs.Calls.{conjunct_of}
use Rattle.least_cut.specs.Watches.{named_in}
use Rattle.least_cut.proofs.ScanLemmas.{scan_made}
use Rattle.least_cut.proofs.scan.Scan.wide.Goals as goal

pub returns-clause-scan : goal.returns-clause-scan
returns-clause-scan g c =
    scan_made c.args.world.now c.rows.result.now c.deref.result.now (map conjunct_of c.args.conjuncts.now) c.in_ok-lists.lists.items _
    c.rows.ensures.starts c.rows.ensures.events
    (ap (λ (l : List (Pid × Bor Expr)). map named_in l) c.deref.ensures.value ∙ c.in_ok-named.ensures)
    c.in_ok-lists.ensures c.in_ok-lines.ensures
