use Rattle.std.proofs.Common.{◌≡◌, ◌⊎◌, inl, inr, ⊎_elim, Some, Ok, Err, refl, sym, ap, subst, rules}
use Rattle.dbg_base.specs.declared.refusal.Refusal.TheVariants.{Memory}
use Rattle.dbg_base.specs.Trees.{Program}
use Rattle.dbg_base.specs.Choices.{CannotUndo}
use Rattle.dbg_base.specs.Calls as model
use Rattle.causal_world.specs.Scenes.{Scene, IsWorldOf}
use Rattle.dbg_base.specs.SystemStates.{last_choice}
use Rattle.proc_tree.specs.Programs.{program_of}
use Rattle.break_book.proofs.BookCallLemmas.{book_shrunk}
use Rattle.dbg_command.specs.Tables.{TableState, IsTableOf, ActsOrRefuses, state_of}
use Rattle.dbg_command.proofs.CommandAnswerLemmas.{taken_back, not_taken_back, system_changed}
use Rattle.dbg_command.proofs.CommandUndoLemmas.{leads_from, undone}
use Rattle.dbg_command.proofs.table.Table.undo.Goals as goal

pub shrink-requires : goal.shrink-requires
shrink-requires c =
    let P = program_of c.args.program.now in
    let own = subst (IsTableOf P) (sym c.self.view_is) c.requires in
    book_shrunk P c.self.inside.world c.undo.new.self c.self.inside.book own.world (c.in_ok-rolled.ensures.of P own.world) own.detectors
    c.args.pid.0 c.in_ok-known.ensures.here c.in_ok-rolled.ensures.moves

pub returns-clause-acts : goal.returns-clause-acts
returns-clause-acts c =
    let P = program_of c.args.program.now in
    let own = subst (IsTableOf P) (sym c.self.view_is) c.requires in
    let before : TableState = record { world = c.self.inside.world; book = c.self.inside.book } in
    let after : TableState = record { world = c.undo.new.self; book = c.shrink.new.self } in
    let of : IsTableOf P after = record { world = c.in_ok-rolled.ensures.of P own.world; detectors = c.shrink.ensures.of } in
    let chosen : c.ok_or.result ≡ Ok c.in_ok-choice.choice = c.in_ok-choice.was in
    let was : last_choice c.self.inside.world.state c.args.pid.0 ≡ Some c.in_ok-choice.choice.0 = search (rules, chosen) in
    subst (λ (t : TableState). ActsOrRefuses P (model.Undo c.args.pid.0) (state_of t) (Ok c.reply.result) (state_of after)) c.self.view_is
    (taken_back P (state_of before) (state_of after) c.args.pid.0 c.in_ok-choice.choice.0 c.reply.result c.in_ok-known.ensures.here
    (c.in_ok-rolled.ensures.may P own.world) was (system_changed before after _ c.in_ok-rolled.ensures.moves c.shrink.ensures.same)
    (c.reply.ensures P of))

pub returns-clause-leads : goal.returns-clause-leads
returns-clause-leads c =
    let P = program_of c.args.program.now in
    let own = subst (IsTableOf P) (sym c.self.view_is) c.requires in
    let before : TableState = record { world = c.self.inside.world; book = c.self.inside.book } in
    let after : TableState = record { world = c.undo.new.self; book = c.shrink.new.self } in
    let chosen : c.ok_or.result ≡ Ok c.in_ok-choice.choice = c.in_ok-choice.was in
    let was : last_choice c.self.inside.world.state c.args.pid.0 ≡ Some c.in_ok-choice.choice.0 = search (rules, chosen) in
    let did = c.in_ok-rolled.ensures in (
      (λ is. cc),
      leads_from _ _ (state_of before) (state_of after) (state_of c.args.self.now) (state_of after) (ap state_of c.self.view_is) refl
          (undone P before after own.world c.shrink.ensures.same c.args.pid.0 c.in_ok-choice.choice.0 c.in_ok-rolled.rolled
          c.in_ok-known.ensures.here was (did.of P own.world) (did.back P own.world) did.moves),
    )

pub returns-in_err-rolled-clause-acts : goal.returns-in_err-rolled-clause-acts
returns-in_err-rolled-clause-acts c =
    let P = program_of c.args.program.now in
    let own = subst (IsTableOf P) (sym c.self.view_is) c.requires in
    let refusal = c.in_err-rolled.field-0.0 in
    let before : TableState = record { world = c.self.inside.world; book = c.self.inside.book } in
    let after : TableState = record { world = c.undo.new.self; book = c.self.inside.book } in
    let refused = c.in_err-rolled.was in
    let err : c.from_residual-in_err-rolled.result ≡ Err refusal = search (rules, refused) in
    let why : CannotUndo P before.world.state c.args.pid.0 refusal ⊎ (refusal ≡ Memory) =
    ⊎_elim (λ (cannot : (Q : Program) → IsWorldOf Q before.world → CannotUndo Q before.world.state c.args.pid.0 refusal).
    inl (cannot P own.world)) (λ (memory : refusal ≡ Memory). inr memory) c.in_err-rolled.ensures.refuses in
    rw err (subst (λ (t : TableState). ActsOrRefuses P (model.Undo c.args.pid.0) (state_of t) (Err refusal) (state_of after)) c.self.view_is
    (not_taken_back P (state_of before) (state_of after) c.args.pid.0 refusal c.in_ok-known.ensures.here why
    (ap (λ (w : Scene). state_of (record { world = w; book = c.self.inside.book })) c.in_err-rolled.ensures.kept)))
