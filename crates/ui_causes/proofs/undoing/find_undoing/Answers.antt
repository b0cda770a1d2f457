use Rattle.std.proofs.Common.{ℕ, refl, subst}
use Rattle.dbg_base.specs.Reversal.{IsRollback}
use Rattle.dbg_base.specs.SystemStates.{history_of}
use Rattle.ui_causes.proofs.UndoingLemmas.{undoes}
use Rattle.ui_causes.proofs.undoing.find_undoing.Goals as goal

pub returns-clause-undoes : goal.returns-clause-undoes
returns-clause-undoes c =
    let w = c.args.world.now in
    let event = c.args.event in
    undoes w event (c.if-not-is_event.ensures.0 refl) c.in_ok-left.left
    (λ P of. subst (λ (n : ℕ). IsRollback P (history_of w.state) event.pid.0 n c.in_ok-left.left) c.saturating_sub-rest.ensures
    (c.in_ok-left.ensures.greatest P of))
    c.chosen-command.result c.chosen-command.ensures
