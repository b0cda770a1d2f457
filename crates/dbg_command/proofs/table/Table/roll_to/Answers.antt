use Rattle.std.proofs.Common.{◌≡◌, refl, sym, ap, subst}
use Rattle.cut_core.specs.ConsistentCuts.{IsConsistentCut}
use Rattle.break_book.proofs.BookCallLemmas.{book_moved, book_moved_room}
use Rattle.dbg_command.specs.Tables.{TableState, IsTableOf, state_of}
use Rattle.dbg_base.specs.SystemStates.{SystemState, after_rollback}
use Rattle.dbg_base.specs.ModelStates.{with_system}
use Rattle.dbg_command.proofs.CommandAnswerLemmas.{system_changed}
use Rattle.dbg_command.proofs.CommandUndoLemmas.{leads_from, rolled}
use Rattle.dbg_command.proofs.table.Table.roll_to.Goals as goal

pub follow-requires-clause-moved : goal.follow-requires-clause-moved
follow-requires-clause-moved c =
    let P = c.requires.of.0 in
    let own = subst (IsTableOf P) (sym c.self.view_is) c.requires.of.1 in
    book_moved P c.self.inside.world c.roll_to.new.self c.self.inside.book own.world (c.in_ok-rolled.ensures.of P own.world)
    own.detectors c.args.cut (subst (λ (t : TableState). IsConsistentCut t.world.kinds c.args.cut) (sym c.self.view_is) c.requires.cut)
    c.in_ok-rolled.ensures.moves

pub follow-requires-clause-room : goal.follow-requires-clause-room
follow-requires-clause-room c =
    let P = c.requires.of.0 in
    let own = subst (IsTableOf P) (sym c.self.view_is) c.requires.of.1 in
    book_moved_room P c.self.inside.world c.roll_to.new.self c.self.inside.book own.world (c.in_ok-rolled.ensures.of P own.world)
    own.detectors c.args.cut (subst (λ (t : TableState). IsConsistentCut t.world.kinds c.args.cut) (sym c.self.view_is) c.requires.cut)
    c.in_ok-rolled.ensures.moves

pub returns-clause-back : goal.returns-clause-back
returns-clause-back c = λ P is.
    let own = subst (IsTableOf P) (sym c.self.view_is) is in
    let before : TableState = record { world = c.self.inside.world; book = c.self.inside.book } in
    let after : TableState = record { world = c.roll_to.new.self; book = c.follow.new.self } in
    record {
      moves = subst (λ (t : TableState). state_of after ≡ with_system (state_of t) (after_rollback t.world.state c.args.cut)) c.self.view_is
          (system_changed before after _ c.in_ok-rolled.ensures.moves c.follow.ensures.same);
      replies = c.reply.ensures P (record { world = c.in_ok-rolled.ensures.of P own.world; detectors = c.follow.ensures.of });
      refuses = tt;
      kept = tt;
    }

pub returns-clause-leads : goal.returns-clause-leads
returns-clause-leads c = λ P is.
    let own = subst (IsTableOf P) (sym c.self.view_is) is in
    let before : TableState = record { world = c.self.inside.world; book = c.self.inside.book } in
    let after : TableState = record { world = c.roll_to.new.self; book = c.follow.new.self } in
    let did = c.in_ok-rolled.ensures in (
      (λ is. cc),
      leads_from _ _ (state_of before) (state_of after) (state_of c.args.self.now) (state_of after) (ap state_of c.self.view_is) refl
          (rolled P before after own.world c.follow.ensures.same c.in_ok-rolled.rolled c.in_ok-places.places (did.of P own.world)
          (did.back P own.world) c.in_ok-places.ensures (ap (λ (M : SystemState). M.lines) did.moves)),
    )
