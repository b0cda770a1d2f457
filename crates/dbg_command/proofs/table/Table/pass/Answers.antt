use Rattle.std.proofs.Common.{◌≡◌, List, sym, ap, refl, subst, Ok, Err, rules}
use Rattle.dbg_base.specs.Calls as model
use Rattle.break_book.specs.Books.{Entry, breakpoints_of}
use Rattle.dbg_command.specs.Tables.{TableState, IsTableOf, ActsOrRefuses, state_of}
use Rattle.dbg_command.proofs.BreakpointCommandLemmas.{keeps_table, passes, not_passed, not_for_memory}
use Rattle.dbg_command.proofs.BreakpointListLemmas.{found_armed}
use Rattle.dbg_command.proofs.CommandUndoLemmas.{leads_from, passed_back}
use Rattle.dbg_command.proofs.table.Table.pass.Goals as goal

pub returns-in_err-pass-clause-acts : goal.returns-in_err-pass-clause-acts
returns-in_err-pass-clause-acts c = λ P is.
    let refused = c.in_err-pass.was in
    let err : c.from_residual.result ≡ Err c.in_err-pass.field-0.0 = search (rules, refused) in
    let own : IsTableOf P (record { world = c.self.inside.world; book = c.self.inside.book }) =
    subst (IsTableOf P) (sym c.self.view_is) is in
    let said = not_passed P (state_of (record { world = c.self.inside.world; book = c.self.inside.book })) c.args.name
    c.in_err-pass.field-0.0 (c.in_err-pass.ensures.refuses c.self.inside.world P own.detectors own.world) in
    rw err (subst
    (λ (t : TableState). ActsOrRefuses P (model.Pass c.args.name) (state_of t) (Err c.in_err-pass.field-0.0)
    (state_of (record { world = c.self.inside.world; book = c.pass.new.self }))) c.self.view_is
    (subst (λ (b : List Entry). ActsOrRefuses P (model.Pass c.args.name)
    (state_of (record { world = c.self.inside.world; book = c.self.inside.book })) (Err c.in_err-pass.field-0.0)
    (state_of (record { world = c.self.inside.world; book = b }))) (sym c.in_err-pass.ensures.kept) said))

pub returns-in_err-pass-clause-memory : goal.returns-in_err-pass-clause-memory
returns-in_err-pass-clause-memory c =
    let P = c.requires.0 in
    let own : IsTableOf P (record { world = c.self.inside.world; book = c.self.inside.book }) =
    subst (IsTableOf P) (sym c.self.view_is) c.requires.1 in
    let refused = c.in_err-pass.was in
    let err : c.from_residual.result ≡ Err c.in_err-pass.field-0.0 = search (rules, refused) in
    rw err (not_for_memory P _ _ _ (c.in_err-pass.ensures.refuses c.self.inside.world P own.detectors own.world))

pub returns-clause-of : goal.returns-clause-of
returns-clause-of c = λ P is.
    keeps_table P c.self.inside.world c.self.inside.book c.pass.new.self c.in_ok-pass.ensures.of
    (subst (IsTableOf P) (sym c.self.view_is) is)

pub returns-clause-acts : goal.returns-clause-acts
returns-clause-acts c = λ P is.
    let own : IsTableOf P (record { world = c.self.inside.world; book = c.self.inside.book }) =
    subst (IsTableOf P) (sym c.self.view_is) is in
    let after : TableState = record { world = c.self.inside.world; book = c.pass.new.self } in
    subst (λ (t : TableState). ActsOrRefuses P (model.Pass c.args.name) (state_of t) (Ok c.reply.result) (state_of after)) c.self.view_is
    (passes P c.self.inside.world c.self.inside.book c.pass.new.self c.reply.result (c.reply.ensures P (returns-clause-of c P is))
    c.args.name (c.in_ok-pass.ensures.passes.1 c.self.inside.world P own.detectors own.world) c.in_ok-pass.ensures.passes.0)

pub returns-clause-leads : goal.returns-clause-leads
returns-clause-leads c =
    let before : TableState = record { world = c.self.inside.world; book = c.self.inside.book } in
    let after : TableState = record { world = c.self.inside.world; book = c.pass.new.self } in
    let P = c.requires.0 in
    let own : IsTableOf P before = subst (IsTableOf P) (sym c.self.view_is) c.requires.1 in
    let did = c.in_ok-pass.ensures.passes in
    let found = found_armed P _ _ (did.1 c.self.inside.world P own.detectors own.world) in
    leads_from _ _ (state_of before) (state_of after) (state_of c.args.self.now) (state_of after) (ap state_of c.self.view_is) refl
    (passed_back c.self.inside.world.state (breakpoints_of before.book) (breakpoints_of after.book) c.args.name found.0 found.1 found.2
    did.0)
