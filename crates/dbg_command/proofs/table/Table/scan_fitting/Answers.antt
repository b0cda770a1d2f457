use Rattle.std.proofs.Common.{◌<◌, length, map, ap, sym, ◌∙◌, arith}
use Rattle.std.proofs.lemmas.Bool.{eqb-false}
use Rattle.std.proofs.lemmas.List.{length-map}
use Rattle.dbg_base.specs.Calls.{conjunct_of}
use Rattle.proc_tree.specs.Programs.{program_of}
use Rattle.least_cut.specs.Watches.{scan_of}
use Rattle.dbg_command.specs.Tables.{TableState}
use Rattle.dbg_command.proofs.Scans.{not_refused, scans_fitting}
use Rattle.dbg_command.proofs.table.Table.scan_fitting.Goals as goal

pub returns-clause-scans : goal.returns-clause-scans
returns-clause-scans g c =
    let conjuncts = map conjunct_of c.args.conjuncts.now in
    let more = eqb-false (length c.args.conjuncts.now) 0 (sym c.if-is_empty.ensures) in
    let some : 0 < length conjuncts = omega (arith, more, length-map c.args.conjuncts.now conjunct_of) in
    λ name.
    scans_fitting (program_of c.args.program.now) c.args.self.now name conjuncts _ c.requires some
    (not_refused c.fitting.result c.if-is_err.ensures.value c.fitting.ensures.fit)
    (c.in_ok-scan.ensures.scan ∙ ap (λ (t : TableState). scan_of t.world conjuncts) c.self.view_is)
