use Rattle.std.proofs.Common.{◌≡◌, ap, ◌∙◌, subst, insert}
use Rattle.std.proofs.lemmas.Result.{on_ok_weaker}
use Rattle.break_book.specs.Books.{Entry, breakpoints_of}
use Rattle.break_book.proofs.BookUndoLemmas.{breakpoints_inserted}
use Rattle.dbg_command.specs.Tables.{TableState, state_of}
use Rattle.dbg_command.specs.Boxes.{uncleared}
use Rattle.dbg_command.proofs.table.Table.restore_break.Goals as goal

pub returns-clause-back : goal.returns-clause-back
returns-clause-back c =
    let book = c.self.inside.book in
    let entry : Entry = (c.args.name, c.args.breakpoint) in
    let after : TableState = record { world = c.self.inside.world; book = c.restore_at.new.self } in
    on_ok_weaker c.restore_at.result (λ (put : c.restore_at.new.self ≡ insert book c.args.position entry).
    subst (λ (t : TableState). state_of after ≡ uncleared c.args.position c.args.name c.args.breakpoint (state_of t)) c.self.view_is
    (λ i. record {
      system = c.self.inside.world.state;
      breakpoints = (ap breakpoints_of put ∙ breakpoints_inserted book c.args.position entry) i;
    })) c.restore_at.ensures.restores
