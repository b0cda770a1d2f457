use Rattle.std.proofs.Common.{◌≡◌, None, sym, ap, ◌∙◌, subst}
use Rattle.std.proofs.lemmas.Result.{on_ok_weaker}
use Rattle.dbg_base.specs.ModelStates.{ModelState, IsHalted}
use Rattle.proc_tree.specs.Programs.{program_of}
use Rattle.least_cut.specs.Detectors.{one_more}
use Rattle.break_book.specs.Books.{breakpoints_of, HaveRoomUpTo}
use Rattle.break_book.proofs.BookCallLemmas.{seen_breakpoints}
use Rattle.dbg_command.specs.Tables.{TableState, state_of}
use Rattle.dbg_command.proofs.table.Table.ready.Goals as goal

pub returns-clause-breakpoints : goal.returns-clause-breakpoints
returns-clause-breakpoints c =
    seen_breakpoints c.reserve.new.self c.self.inside.book c.reserve.ensures.same
    ∙ ap (λ (t : TableState). breakpoints_of t.book) c.self.view_is

pub returns-clause-ready : goal.returns-clause-ready
returns-clause-ready c =
    let P = program_of c.args.program.now in
    let state : state_of (record { world = c.self.inside.world; book = c.reserve.new.self }) ≡ state_of c.args.self.now = (λ i. record {
      system = (c.self.view_is i).world.state;
      breakpoints = returns-clause-breakpoints c i;
    }) in
    on_ok_weaker c.reserve.result (λ (room : HaveRoomUpTo c.reserve.new.self (one_more c.self.inside.world c.args.pid.0)). record {
      here = c.in_ok-known.ensures.here;
      goes_on = subst (λ (M : ModelState). IsHalted P M None) (sym state) (c.in_ok-unhalted.ensures.goes_on P c.requires);
      room = room;
    })
    c.reserve.ensures.room
