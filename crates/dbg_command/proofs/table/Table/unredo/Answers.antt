use Rattle.std.proofs.Common.{◌≡◌, sym, ap, ◌∙◌, subst}
use Rattle.dbg_base.specs.SystemStates.{line_of, place_at, after_undo}
use Rattle.causal_world.specs.Scenes.{Scene, IsWorldOf}
use Rattle.break_book.specs.Books.{AreShrunk}
use Rattle.break_book.proofs.BookUndoLemmas.{book_unredone}
use Rattle.dbg_command.specs.Tables.{TableState, IsTableOf, state_of}
use Rattle.dbg_command.specs.Boxes.{HasRedone, unredone}
use Rattle.dbg_command.proofs.CommandAnswerLemmas.{system_changed, on_line}
use Rattle.dbg_command.proofs.CommandUndoLemmas.{is_redone, redo_undone}
use Rattle.dbg_command.proofs.table.Table.unredo.Goals as goal

pub unredo-requires : goal.unredo-requires
unredo-requires c =
    let P = c.requires.0 in
    let own = subst (IsTableOf P) (sym c.self.view_is) c.requires.1 in
    let has = subst (λ (t : TableState). HasRedone P c.args.pid.0 (state_of t)) (sym c.self.view_is) c.requires.2 in
    (P, is_redone P (record { world = c.self.inside.world; book = c.self.inside.book }) c.args.pid.0 own has)

pub shrink-requires : goal.shrink-requires
shrink-requires c =
    let P = c.requires.0 in
    let before : TableState = record { world = c.self.inside.world; book = c.self.inside.book } in
    let own = subst (IsTableOf P) (sym c.self.view_is) c.requires.1 in
    let has = subst (λ (t : TableState). HasRedone P c.args.pid.0 (state_of t)) (sym c.self.view_is) c.requires.2 in
    subst (AreShrunk before.book c.args.pid.0) (sym (c.in_ok-unredo.ensures.back P (is_redone P before c.args.pid.0 own has)))
    (book_unredone P has.before before.world before.book has.of own.world own.detectors c.args.pid.0 has.here
    (on_line (line_of has.before.state c.args.pid.0) (place_at has.before.state c.args.pid.0) has.choice has.next) has.state)

pub returns-clause-of : goal.returns-clause-of
returns-clause-of c = λ P is redone.
    let before : TableState = record { world = c.self.inside.world; book = c.self.inside.book } in
    let own = subst (IsTableOf P) (sym c.self.view_is) is in
    let has = subst (λ (t : TableState). HasRedone P c.args.pid.0 (state_of t)) (sym c.self.view_is) redone in
    record {
      world = subst (IsWorldOf P) (sym (c.in_ok-unredo.ensures.back P (is_redone P before c.args.pid.0 own has))) has.of;
      detectors = c.shrink.ensures.of;
    }

pub returns-clause-back : goal.returns-clause-back
returns-clause-back c =
    let P = c.requires.0 in
    let before : TableState = record { world = c.self.inside.world; book = c.self.inside.book } in
    let after : TableState = record { world = c.unredo.new.self; book = c.shrink.new.self } in
    let own = subst (IsTableOf P) (sym c.self.view_is) c.requires.1 in
    let has = subst (λ (t : TableState). HasRedone P c.args.pid.0 (state_of t)) (sym c.self.view_is) c.requires.2 in
    let back = c.in_ok-unredo.ensures.back P (is_redone P before c.args.pid.0 own has) in
    let undone = redo_undone P has.before before.world.state c.args.pid.0 has.of has.here has.state in
    subst (λ (t : TableState). state_of after ≡ unredone c.args.pid.0 (state_of t)) c.self.view_is
    (system_changed before after (after_undo before.world.state c.args.pid.0)
    (ap (λ (w : Scene). w.state) back ∙ sym undone) c.shrink.ensures.same)
