use Rattle.std.proofs.Common.{◌≡◌, List, ℕ, length, sym, ap, ◌∙◌, subst, arith}
use Rattle.dbg_base.specs.SystemStates.{SystemState, after_rollback}
use Rattle.causal_world.specs.Scenes.{Scene, IsWorldOf}
use Rattle.break_book.specs.Books.{AreMoved, HaveRoomUpTo, breakpoints_of}
use Rattle.break_book.proofs.BookCallLemmas.{seen_breakpoints}
use Rattle.break_book.proofs.BookUndoLemmas.{book_forth_from}
use Rattle.dbg_command.specs.Tables.{TableState, IsTableOf, state_of}
use Rattle.dbg_command.specs.Boxes.{HasRolled, unrolled}
use Rattle.dbg_command.proofs.CommandAnswerLemmas.{system_changed}
use Rattle.dbg_command.proofs.CommandUndoLemmas.{is_rolled}
use Rattle.dbg_command.proofs.table.Table.forth.Goals as goal

pub reserve_to-requires : goal.reserve_to-requires
reserve_to-requires c =
    let P = c.requires.0 in
    let taken = c.args.taken.now in
    let own = subst (IsTableOf P) (sym c.self.view_is) c.requires.1 in
    let has = subst (λ (t : TableState). HasRolled P taken.rolled taken.places (state_of t)) (sym c.self.view_is) c.requires.2 in
    let was = ap (λ (M : SystemState). length M.places) has.was in
    omega (arith, was, has.from.of.state.places, own.world.state.places)

pub forth-requires : goal.forth-requires
forth-requires c =
    let P = c.requires.0 in
    let taken = c.args.taken.now in
    let own = subst (IsTableOf P) (sym c.self.view_is) c.requires.1 in
    let has = subst (λ (t : TableState). HasRolled P taken.rolled taken.places (state_of t)) (sym c.self.view_is) c.requires.2 in
    (P, is_rolled P c.self.inside.world (breakpoints_of c.self.inside.book) taken.rolled taken.places own.world has)

pub follow-requires-clause-moved : goal.follow-requires-clause-moved
follow-requires-clause-moved c =
    let P = c.requires.0 in
    let taken = c.args.taken.now in
    let own = subst (IsTableOf P) (sym c.self.view_is) c.requires.1 in
    let has = subst (λ (t : TableState). HasRolled P taken.rolled taken.places (state_of t)) (sym c.self.view_is) c.requires.2 in
    let rolled = is_rolled P c.self.inside.world (breakpoints_of c.self.inside.book) taken.rolled taken.places own.world has in
    subst (AreMoved c.reserve_to.new.self) (sym (c.in_ok-forth.ensures.back P rolled))
    (book_forth_from P has.before c.self.inside.world c.reserve_to.new.self has.from.of own.world
    (c.reserve_to.ensures.of c.self.inside.world own.detectors) taken.rolled rolled.from)

pub follow-requires-clause-room : goal.follow-requires-clause-room
follow-requires-clause-room c =
    let P = c.requires.0 in
    let taken = c.args.taken.now in
    let own = subst (IsTableOf P) (sym c.self.view_is) c.requires.1 in
    let has = subst (λ (t : TableState). HasRolled P taken.rolled taken.places (state_of t)) (sym c.self.view_is) c.requires.2 in
    let rolled = is_rolled P c.self.inside.world (breakpoints_of c.self.inside.book) taken.rolled taken.places own.world has in
    subst (λ (places : List ℕ). HaveRoomUpTo c.reserve_to.new.self places)
    (sym (ap (λ (w : Scene). w.state.places) (c.in_ok-forth.ensures.back P rolled) ∙ ap (λ (M : SystemState). M.places) has.was))
    c.in_ok-reserve_to.ensures.room

pub returns-clause-of : goal.returns-clause-of
returns-clause-of c = λ P is had.
    let taken = c.args.taken.now in
    let own = subst (IsTableOf P) (sym c.self.view_is) is in
    let has = subst (λ (t : TableState). HasRolled P taken.rolled taken.places (state_of t)) (sym c.self.view_is) had in
    let rolled = is_rolled P c.self.inside.world (breakpoints_of c.self.inside.book) taken.rolled taken.places own.world has in
    record { world = subst (IsWorldOf P) (sym (c.in_ok-forth.ensures.back P rolled)) has.from.of; detectors = c.follow.ensures.of }

pub returns-clause-back : goal.returns-clause-back
returns-clause-back c =
    let P = c.requires.0 in
    let taken = c.args.taken.now in
    let before : TableState = record { world = c.self.inside.world; book = c.self.inside.book } in
    let after : TableState = record { world = c.forth.new.self; book = c.follow.new.self } in
    let own = subst (IsTableOf P) (sym c.self.view_is) c.requires.1 in
    let has = subst (λ (t : TableState). HasRolled P taken.rolled taken.places (state_of t)) (sym c.self.view_is) c.requires.2 in
    let rolled = is_rolled P c.self.inside.world (breakpoints_of c.self.inside.book) taken.rolled taken.places own.world has in
    subst (λ (t : TableState). state_of after ≡ unrolled taken.places (state_of t)) c.self.view_is
    (system_changed before after (after_rollback before.world.state taken.places)
    (ap (λ (w : Scene). w.state) (c.in_ok-forth.ensures.back P rolled) ∙ has.was)
    (c.follow.ensures.same ∙ seen_breakpoints c.reserve_to.new.self before.book c.reserve_to.ensures.same))

pub returns-in_err-reserve_to-clause-of : goal.returns-in_err-reserve_to-clause-of
returns-in_err-reserve_to-clause-of c = λ P is had.
    let own = subst (IsTableOf P) (sym c.self.view_is) is in
    record { world = own.world; detectors = c.reserve_to.ensures.of c.self.inside.world own.detectors }

pub returns-in_err-forth-clause-of : goal.returns-in_err-forth-clause-of
returns-in_err-forth-clause-of c = λ P is had.
    let own = subst (IsTableOf P) (sym c.self.view_is) is in
    subst (λ (w : Scene). IsTableOf P (record { world = w; book = c.reserve_to.new.self })) (sym c.in_err-forth.ensures.kept)
    (record { world = own.world; detectors = c.reserve_to.ensures.of c.self.inside.world own.detectors })
