use Rattle.std.proofs.Common.{sym, ap, refl, subst, Ok}
use Rattle.dbg_base.specs.Calls as model
use Rattle.break_book.specs.Books.{breakpoint_of}
use Rattle.dbg_command.specs.Tables.{TableState, IsTableOf, ActsOrRefuses, state_of}
use Rattle.dbg_command.proofs.BreakpointCommandLemmas.{keeps_table, clears}
use Rattle.dbg_command.proofs.CommandUndoLemmas.{leads_from, has_cleared}
use Rattle.dbg_command.proofs.table.Table.clear.Goals as goal

pub returns-clause-of : goal.returns-clause-of
returns-clause-of c = λ P is.
    keeps_table P c.self.inside.world c.self.inside.book c.clear.new.self c.in_ok-cleared.ensures.of
    (subst (IsTableOf P) (sym c.self.view_is) is)

pub returns-clause-acts : goal.returns-clause-acts
returns-clause-acts c = λ P is.
    let after : TableState = record { world = c.self.inside.world; book = c.clear.new.self } in
    subst (λ (t : TableState). ActsOrRefuses P (model.Clear c.args.name) (state_of t) (Ok c.reply.result) (state_of after)) c.self.view_is
    (clears P c.self.inside.world c.self.inside.book c.clear.new.self c.reply.result (c.reply.ensures P (returns-clause-of c P is))
    c.args.name (breakpoint_of (c.args.name, c.in_ok-cleared.cleared.1)) c.in_ok-cleared.ensures.clears.0
    c.in_ok-cleared.ensures.clears.1)

pub returns-clause-leads : goal.returns-clause-leads
returns-clause-leads c = λ P is.
    let own = subst (IsTableOf P) (sym c.self.view_is) is in
    let before : TableState = record { world = c.self.inside.world; book = c.self.inside.book } in
    let after : TableState = record { world = c.self.inside.world; book = c.clear.new.self } in
    let did = c.in_ok-cleared.ensures in (
      (λ is. cc),
      leads_from _ _ (state_of before) (state_of after) (state_of c.args.self.now) (state_of after) (ap state_of c.self.view_is) refl
          (has_cleared P c.self.inside.world c.self.inside.book c.clear.new.self own.world own.detectors c.in_ok-cleared.cleared.0 c.args.name
          c.in_ok-cleared.cleared.1 did.position.0 did.position.1 did.free did.few),
    )
