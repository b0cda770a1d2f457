use Rattle.std.proofs.Common.{ap, ◌∙◌}
use Rattle.dbg_base.specs.Histories.{play}
use Rattle.dbg_base.specs.Reversal.{after_undos}
use Rattle.dbg_laws.proofs.UndoLemmas.{unfired_all}
use Rattle.dbg_laws.proofs.UndoneCutLemmas.{cut_of, undos_to, prefix_after, prefix_is_cut, prefix_consistent}
use Rattle.dbg_laws.proofs.laws.any_undo.Goals as goal

pub returns-clause-reached : goal.returns-clause-reached
returns-clause-reached c P H undos all permitted =
    let prefix = prefix_after P H undos permitted in (
      cut_of (after_undos H undos),
      prefix_consistent P H (after_undos H undos) (unfired_all P H undos all permitted).0 prefix,
      prefix_is_cut H (after_undos H undos) prefix,
    )

pub returns-clause-leads : goal.returns-clause-leads
returns-clause-leads c P H cut all consistent =
    let l = undos_to P H cut all consistent in
    (l.undos, l.permitted, l.leads)

pub returns-clause-ends : goal.returns-clause-ends
returns-clause-ends c P H cut undos all permitted leads =
    (unfired_all P H undos all permitted).1 ∙ ap (play P) leads
