use Rattle.std.proofs.Common.{refl, sym, ap, ◌∙◌, subst}
use Rattle.proc_tree.specs.Programs.{program_of}
use Rattle.break_book.proofs.BookCallLemmas.{book_grown}
use Rattle.dbg_command.specs.Tables.{TableState, IsTableOf, state_of}
use Rattle.dbg_command.proofs.CommandUndoLemmas.{leads_from, stepped}
use Rattle.dbg_command.proofs.table.Table.step.Goals as goal

pub grown-requires-clause-grown : goal.grown-requires-clause-grown
grown-requires-clause-grown c =
    let P = program_of c.args.program.now in
    let own = subst (IsTableOf P) (sym c.self.view_is) c.ready.ensures.of in
    book_grown P c.self.inside.world c.step.new.self c.self.inside.book own.world c.step.ensures.of own.detectors c.args.pid.0
    c.args.choice.0 c.in_ok-ready.ensures.ready.here c.in_ok-cutoff.ensures.moves.1

pub returns-clause-leads : goal.returns-clause-leads
returns-clause-leads c =
    let P = program_of c.args.program.now in
    let own = subst (IsTableOf P) (sym c.self.view_is) c.ready.ensures.of in
    let before : TableState = record { world = c.self.inside.world; book = c.self.inside.book } in
    let after : TableState = record { world = c.step.new.self; book = c.self.inside.book } in (
      (λ is. cc),
      leads_from _ _ (state_of before) (state_of after) (state_of c.args.self.now) (state_of c.grown.new.self)
          (ap state_of c.self.view_is
          ∙ (λ i. record { system = (c.ready.ensures.world i).state; breakpoints = c.ready.ensures.breakpoints i }))
          (sym c.grown.ensures.same)
          (stepped P before after own.world refl c.args.pid.0 c.args.choice.0 c.in_ok-cutoff.cutoff c.in_ok-ready.ensures.ready.here
          c.in_ok-cutoff.ensures.moves.1 c.in_ok-cutoff.ensures.cut),
    )
