use Rattle.std.proofs.Common.{◌≡◌, ◌<◌, List, [], ◌∷◌, ◌++◌, length, map, vec_len, ap, ◌∙◌, subst, rules, Err}
use Rattle.dbg_base.specs.declared.limits.TheConstants.{CALLS}
use Rattle.dbg_base.specs.declared.refusal.Refusal.TheVariants.{Memory}
use Rattle.dbg_base.specs.Trees.{Program}
use Rattle.dbg_base.specs.Fits.{FitsCall}
use Rattle.std.specs.Prelude.{IsTrue}
use Rattle.dbg_base.specs.Calls.{Order, Give}
use Rattle.dbg_base.specs.Journals.{effective}
use Rattle.dbg_board.specs.declared.glance.Glance.{Glance}
use Rattle.dbg_board.specs.Boards.{Listing}
use Rattle.dbg_command.specs.Tables.{FollowsOrRefuses, said_of}
use Rattle.dbg_desk.specs.declared.entry.Entry as entry
use Rattle.dbg_desk.specs.declared.entry.RecordedCall as own
use Rattle.dbg_desk.specs.Desks.{entry_of, own_of}
use Rattle.dbg_desk.proofs.EnteredCallLemmas.{IsEntered, due_given, entered, notes_last, makes_last, enters_last, fits_last}
use Rattle.dbg_desk.proofs.locked.Locked.log_command.Goals as goal

here : (g : _) (c : goal.After-enter_command g)
    → IsEntered g.L.Run.program g.L.Run.seats (Give (g.C.Command.order c.args.command)) (said_of c.perform-outcome.result) c.args.self.now
    c.args.seat.now c.perform-outcome.new.self (map entry_of c.enter_command.new.self.journal.items) c.enter_command.new.self.publisher.pairs
    (record { number = c.seat.inside.number; own = map own_of c.enter_command.new.own.items; seen = c.enter_command.new.view.pairs })
here g c =
    let P = g.L.Run.program in
    let items = c.self.inside.log.journal.items in
    let session = c.self.inside.session in
    let after = c.perform-outcome.new.self in
    let order = g.C.Command.order c.args.command in
    let result = c.perform-outcome.result in
    let logged = c.enter_command.ensures.journal in
    let recorded = c.enter_command.ensures.own in
    let pair : Glance = record { calls = vec_len c.enter_command.new.self.journal; halt = c.halt_at-halt.result } in
    let few : length items < CALLS = search rules in
    let long : vec_len c.enter_command.new.self.journal ≡ length c.enter_command.new.self.journal.items = search rules in
    let there : result ≡ Err Memory → ⊥ =
    λ is. let ran : IsTrue c.ran_out.result = c.ran_out.ensures.1 is in let not = c.if-ran_out.false in cc in
    let follows : FollowsOrRefuses P order session.state result after.state =
    subst (λ (Q : Program). FollowsOrRefuses Q order session.state result after.state) c.self.invariant.program
    c.perform-outcome.ensures.follows in
    let due = due_given P (effective (map entry_of items)) c.seat.inside.number order session.state after.state result
    c.self.invariant.leads_to follows there in
    entered P g.L.Run.seats session items c.self.inside.log.publisher.pairs c.self.invariant c.seat.inside.number
    (Give order) (said_of result) few due
    logged.last logged.of_seat
    (logged.of_call ∙ c.in_ok-given.ensures.gives.of ∙ ap (λ (o : Order). Give o) c.plan.ensures)
    logged.of_said c.enter_command.new.self.journal.items
    (logged.pushed ∙ ap (λ (l : List entry.Entry). l ++ logged.last ∷ []) c.make_ready.ensures.journal)
    after c.perform-outcome.ensures.program c.perform-outcome.ensures.effective c.perform-outcome.ensures.leads_to c.halt_at-halt.result
    c.halt_at-halt.ensures.place (vec_len c.enter_command.new.self.journal) long c.enter_command.new.self.publisher.pairs
    (c.enter_command.ensures.pairs ∙ ap (λ (l : Listing). l.pairs ++ pair ∷ []) c.make_ready.ensures.publisher)
    c.seat.invariant.among c.args.self.now c.args.seat.now recorded.last c.seat.inside.own.items c.enter_command.new.own.items c.seat.inside.view.pairs
    c.enter_command.new.view.pairs c.self.view_is c.seat.view_is
    (recorded.of_call ∙ c.in_ok-given.ensures.gives.of ∙ ap (λ (o : Order). Give o) c.plan.ensures)
    recorded.of_said
    (recorded.pushed ∙ ap (λ (l : List own.RecordedCall). l ++ recorded.last ∷ []) c.make_ready.ensures.own)
    (ap (λ (l : Listing). l.pairs) c.enter_command.ensures.seen.0)
    c.enter_command.ensures.seen.1

pub invariant_of-self-2 : goal.invariant_of-self-2
invariant_of-self-2 g c = (here g c).locked

pub returns-clause-notes : goal.returns-clause-notes
returns-clause-notes g c = notes_last (here g c)

pub returns-clause-makes : goal.returns-clause-makes
returns-clause-makes g c = makes_last (here g c)

pub returns-clause-enters : goal.returns-clause-enters
returns-clause-enters g c = enters_last (here g c)

pub returns-clause-fits : goal.returns-clause-fits
returns-clause-fits g c =
    fits_last (here g c) (subst (λ (Q : Program). FitsCall Q (Give (g.C.Command.order c.args.command)) (said_of c.perform-outcome.result)) c.self.invariant.program
    c.perform-outcome.ensures.fits)
