use Rattle.std.proofs.Common.{◌≤◌, sym, arith, subst}
use Rattle.proc_tree.specs.Programs.{program_of}
use Rattle.dbg_base.specs.SystemStates.{place_at, history_of}
use Rattle.dbg_base.specs.Reversal.{IsRollback}
use Rattle.dbg_command.specs.Tables.{TableState, IsTableOf, state_of}
use Rattle.dbg_command.proofs.CommandAnswerLemmas.{rolled_back}
use Rattle.dbg_command.proofs.CommandUndoLemmas.{accepted_in}
use Rattle.dbg_command.proofs.table.Table.rollback.Goals as goal

pub returns-clause-of : goal.returns-clause-of
returns-clause-of c = c.roll_to.ensures.of (program_of c.args.program.now) c.requires

pub returns-clause-acts : goal.returns-clause-acts
returns-clause-acts c =
    let P = program_of c.args.program.now in
    let own = subst (IsTableOf P) (sym c.self.view_is) c.requires in
    let within : c.args.n ≤ place_at c.self.inside.world.state c.args.pid.0 = omega (arith, c.if-n-place.false, c.place.ensures) in
    rolled_back P (state_of c.args.self.now) (state_of c.roll_to.new.self) c.args.pid.0 c.args.n c.in_ok-cut.cut c.roll_to.result
    c.in_ok-known.ensures.here
    (subst (λ (t : TableState). c.args.n ≤ place_at t.world.state c.args.pid.0) c.self.view_is within)
    (subst (λ (t : TableState). IsRollback P (history_of t.world.state) c.args.pid.0 c.args.n c.in_ok-cut.cut) c.self.view_is
    (c.in_ok-cut.ensures.greatest P own.world))
    (c.roll_to.ensures.back P c.requires)

pub returns-clause-leads : goal.returns-clause-leads
returns-clause-leads c =
    accepted_in c.roll_to.result c.args.self.now (program_of c.args.program.now) _ c.roll_to.ensures.leads c.requires
