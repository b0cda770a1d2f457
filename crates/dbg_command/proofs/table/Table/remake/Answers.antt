use Rattle.std.proofs.Common.{◌≡◌, List, ℕ, sym, ap, ◌∙◌, subst}
use Rattle.dbg_base.specs.SystemStates.{SystemState, after_redo}
use Rattle.causal_world.specs.Scenes.{Scene, IsWorldOf}
use Rattle.break_book.specs.Books.{AreGrown, HaveRoomUpTo, breakpoints_of}
use Rattle.break_book.proofs.BookCallLemmas.{book_grown_again, seen_breakpoints}
use Rattle.dbg_command.specs.Tables.{TableState, IsTableOf, state_of}
use Rattle.dbg_command.specs.Boxes.{HasUndone, remade}
use Rattle.dbg_command.proofs.CommandAnswerLemmas.{system_changed}
use Rattle.dbg_command.proofs.CommandUndoLemmas.{is_rolled, undone_more}
use Rattle.dbg_command.proofs.table.Table.remake.Goals as goal

pub forth-requires : goal.forth-requires
forth-requires c =
    let P = c.requires.0 in
    let taken = c.args.rolled.now in
    let own = subst (IsTableOf P) (sym c.self.view_is) c.requires.1 in
    let has = subst (λ (t : TableState). HasUndone P c.args.pid.0 taken (state_of t)) (sym c.self.view_is) c.requires.2 in
    (P, is_rolled P c.self.inside.world (breakpoints_of c.self.inside.book) taken _ own.world has.rolled)

pub grow-requires-clause-grown : goal.grow-requires-clause-grown
grow-requires-clause-grown c =
    let P = c.requires.0 in
    let taken = c.args.rolled.now in
    let own = subst (IsTableOf P) (sym c.self.view_is) c.requires.1 in
    let has = subst (λ (t : TableState). HasUndone P c.args.pid.0 taken (state_of t)) (sym c.self.view_is) c.requires.2 in
    let rolled = is_rolled P c.self.inside.world (breakpoints_of c.self.inside.book) taken _ own.world has.rolled in
    let before : TableState = record { world = c.self.inside.world; book = c.self.inside.book } in
    subst (AreGrown c.reserve.new.self c.args.pid.0) (sym (c.in_ok-forth.ensures.back P rolled))
    (book_grown_again P c.self.inside.world has.rolled.before c.reserve.new.self own.world has.rolled.from.of c.reserve.ensures.of
    c.args.pid.0 has.here (undone_more P (state_of before) c.args.pid.0 taken own.world.state has) has.rolled.was)

pub grow-requires-clause-room : goal.grow-requires-clause-room
grow-requires-clause-room c =
    let P = c.requires.0 in
    let taken = c.args.rolled.now in
    let own = subst (IsTableOf P) (sym c.self.view_is) c.requires.1 in
    let has = subst (λ (t : TableState). HasUndone P c.args.pid.0 taken (state_of t)) (sym c.self.view_is) c.requires.2 in
    let rolled = is_rolled P c.self.inside.world (breakpoints_of c.self.inside.book) taken _ own.world has.rolled in
    subst (λ (places : List ℕ). HaveRoomUpTo c.reserve.new.self places)
    (sym (ap (λ (w : Scene). w.state.places) (c.in_ok-forth.ensures.back P rolled) ∙ ap (λ (M : SystemState). M.places) has.rolled.was))
    c.in_ok-reserve.ensures.room

pub returns-clause-of : goal.returns-clause-of
returns-clause-of c = λ P is had.
    let taken = c.args.rolled.now in
    let own = subst (IsTableOf P) (sym c.self.view_is) is in
    let has = subst (λ (t : TableState). HasUndone P c.args.pid.0 taken (state_of t)) (sym c.self.view_is) had in
    let rolled = is_rolled P c.self.inside.world (breakpoints_of c.self.inside.book) taken _ own.world has.rolled in
    record { world = subst (IsWorldOf P) (sym (c.in_ok-forth.ensures.back P rolled)) has.rolled.from.of; detectors = c.grow.ensures.of }

pub returns-clause-back : goal.returns-clause-back
returns-clause-back c =
    let P = c.requires.0 in
    let taken = c.args.rolled.now in
    let before : TableState = record { world = c.self.inside.world; book = c.self.inside.book } in
    let after : TableState = record { world = c.forth.new.self; book = c.grow.new.self } in
    let own = subst (IsTableOf P) (sym c.self.view_is) c.requires.1 in
    let has = subst (λ (t : TableState). HasUndone P c.args.pid.0 taken (state_of t)) (sym c.self.view_is) c.requires.2 in
    let rolled = is_rolled P c.self.inside.world (breakpoints_of c.self.inside.book) taken _ own.world has.rolled in
    subst (λ (t : TableState). state_of after ≡ remade c.args.pid.0 (state_of t)) c.self.view_is
    (system_changed before after (after_redo before.world.state c.args.pid.0)
    (ap (λ (w : Scene). w.state) (c.in_ok-forth.ensures.back P rolled) ∙ has.rolled.was)
    (c.grow.ensures.same ∙ seen_breakpoints c.reserve.new.self before.book c.reserve.ensures.same))

pub returns-in_err-forth-clause-of : goal.returns-in_err-forth-clause-of
returns-in_err-forth-clause-of c = λ P is had.
    let own = subst (IsTableOf P) (sym c.self.view_is) is in
    subst (λ (w : Scene). IsTableOf P (record { world = w; book = c.reserve.new.self })) (sym c.in_err-forth.ensures.kept)
    (record { world = own.world; detectors = c.reserve.ensures.of })
