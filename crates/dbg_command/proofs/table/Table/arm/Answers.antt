use Rattle.std.proofs.Common.{sym, ap, refl, subst, Ok}
use Rattle.dbg_base.specs.Calls as model
use Rattle.dbg_command.specs.Tables.{TableState, IsTableOf, ActsOrRefuses, state_of}
use Rattle.break_book.specs.Books.{breakpoints_of}
use Rattle.dbg_command.proofs.BreakpointCommandLemmas.{keeps_table, arms}
use Rattle.dbg_command.proofs.BreakpointListLemmas.{found_unarmed}
use Rattle.dbg_command.proofs.CommandUndoLemmas.{leads_from, armed_back}
use Rattle.dbg_command.proofs.table.Table.arm.Goals as goal

pub returns-clause-of : goal.returns-clause-of
returns-clause-of c = λ P is.
    keeps_table P c.self.inside.world c.self.inside.book c.arm.new.self c.in_ok-arm.ensures.of (subst (IsTableOf P) (sym c.self.view_is) is)

pub returns-clause-acts : goal.returns-clause-acts
returns-clause-acts c = λ P is.
    let after : TableState = record { world = c.self.inside.world; book = c.arm.new.self } in
    subst (λ (t : TableState). ActsOrRefuses P (model.Arm c.args.name) (state_of t) (Ok c.reply.result) (state_of after)) c.self.view_is
    (arms P c.self.inside.world c.self.inside.book c.arm.new.self c.reply.result (c.reply.ensures P (returns-clause-of c P is))
    c.args.name c.in_ok-arm.ensures.arms.0 c.in_ok-arm.ensures.arms.1)

pub returns-clause-leads : goal.returns-clause-leads
returns-clause-leads c =
    let before : TableState = record { world = c.self.inside.world; book = c.self.inside.book } in
    let after : TableState = record { world = c.self.inside.world; book = c.arm.new.self } in
    let did = c.in_ok-arm.ensures.arms in
    let found = found_unarmed _ did.0 in
    leads_from _ _ (state_of before) (state_of after) (state_of c.args.self.now) (state_of after) (ap state_of c.self.view_is) refl
    (armed_back c.self.inside.world.state (breakpoints_of before.book) (breakpoints_of after.book) c.args.name found.0 found.1
    found.2 did.1)
