use Rattle.std.proofs.Common.{◌≡◌, sym, ap, ◌∙◌, subst}
use Rattle.causal_world.specs.Scenes.{Scene, IsWorldOf, restored}
use Rattle.break_book.specs.Books.{AreShrunk}
use Rattle.break_book.proofs.BookUndoLemmas.{book_unstepped}
use Rattle.dbg_command.specs.Tables.{TableState, IsTableOf, state_of}
use Rattle.dbg_command.specs.Boxes.{HasStepped, unstepped}
use Rattle.dbg_command.proofs.CommandAnswerLemmas.{system_changed}
use Rattle.dbg_command.proofs.CommandUndoLemmas.{is_stepped, step_undone}
use Rattle.dbg_command.proofs.table.Table.unstep.Goals as goal

pub unstep-requires : goal.unstep-requires
unstep-requires c =
    let P = c.requires.0 in
    let own = subst (IsTableOf P) (sym c.self.view_is) c.requires.1 in
    let has = subst (λ (t : TableState). HasStepped P c.args.pid.0 c.args.cutoff (state_of t)) (sym c.self.view_is) c.requires.2 in
    (P, is_stepped P (record { world = c.self.inside.world; book = c.self.inside.book }) c.args.pid.0 c.args.cutoff own has)

pub shrink-requires : goal.shrink-requires
shrink-requires c =
    let P = c.requires.0 in
    let before : TableState = record { world = c.self.inside.world; book = c.self.inside.book } in
    let own = subst (IsTableOf P) (sym c.self.view_is) c.requires.1 in
    let has = subst (λ (t : TableState). HasStepped P c.args.pid.0 c.args.cutoff (state_of t)) (sym c.self.view_is) c.requires.2 in
    subst (AreShrunk before.book c.args.pid.0)
    (sym (c.in_ok-unstep.ensures.back P (is_stepped P before c.args.pid.0 c.args.cutoff own has)))
    (book_unstepped P has.before before.world before.book has.of own.world own.detectors c.args.pid.0 has.choice has.here has.state)

pub returns-clause-of : goal.returns-clause-of
returns-clause-of c = λ P is stepped.
    let before : TableState = record { world = c.self.inside.world; book = c.self.inside.book } in
    let own = subst (IsTableOf P) (sym c.self.view_is) is in
    let has = subst (λ (t : TableState). HasStepped P c.args.pid.0 c.args.cutoff (state_of t)) (sym c.self.view_is) stepped in
    record {
      world = subst (IsWorldOf P) (sym (c.in_ok-unstep.ensures.back P (is_stepped P before c.args.pid.0 c.args.cutoff own has))) has.of;
      detectors = c.shrink.ensures.of;
    }

pub returns-clause-back : goal.returns-clause-back
returns-clause-back c =
    let P = c.requires.0 in
    let before : TableState = record { world = c.self.inside.world; book = c.self.inside.book } in
    let after : TableState = record { world = c.unstep.new.self; book = c.shrink.new.self } in
    let own = subst (IsTableOf P) (sym c.self.view_is) c.requires.1 in
    let has = subst (λ (t : TableState). HasStepped P c.args.pid.0 c.args.cutoff (state_of t)) (sym c.self.view_is) c.requires.2 in
    let back = c.in_ok-unstep.ensures.back P (is_stepped P before c.args.pid.0 c.args.cutoff own has) in
    let undone = step_undone P has.before before.world.state c.args.pid.0 has.choice c.args.cutoff has.of has.here has.state has.cut in
    subst (λ (t : TableState). state_of after ≡ unstepped c.args.pid.0 c.args.cutoff (state_of t)) c.self.view_is
    (system_changed before after (restored before.world.state c.args.pid.0 c.args.cutoff)
    (ap (λ (w : Scene). w.state) back ∙ sym undone) c.shrink.ensures.same)
