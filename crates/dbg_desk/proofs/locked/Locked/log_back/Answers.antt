use Rattle.std.proofs.Common.{◌≡◌, ◌<◌, List, [], ◌∷◌, ◌++◌, length, map, vec_len, ap, ◌∙◌, subst, rules, Err}
use Rattle.dbg_base.specs.declared.limits.TheConstants.{CALLS}
use Rattle.dbg_base.specs.declared.refusal.Refusal.TheVariants.{Memory}
use Rattle.dbg_base.specs.Trees.{Program}
use Rattle.dbg_base.specs.Fits.{FitsCall}
use Rattle.std.specs.Prelude.{◌⊎◌, IsTrue}
use Rattle.dbg_base.specs.Calls.{Back, call_of}
use Rattle.dbg_base.specs.Journals.{Given, AnswersBack, effective, last_given}
use Rattle.dbg_board.specs.declared.glance.Glance.{Glance}
use Rattle.dbg_board.specs.Boards.{Listing}
use Rattle.dbg_command.specs.Tables.{said_of}
use Rattle.dbg_records.specs.Small.{small_call_of, small_said_of}
use Rattle.dbg_desk.specs.declared.entry.Entry as entry
use Rattle.dbg_desk.specs.declared.entry.RecordedCall as own
use Rattle.dbg_desk.specs.Desks.{entry_of, own_of}
use Rattle.dbg_desk.proofs.EnteredCallLemmas.{IsEntered, due_back, entered, notes_last, makes_last, enters_last, fits_last}
use Rattle.dbg_desk.proofs.locked.Locked.log_back.Goals as goal

here : (g : _) (c : goal.After-enter g)
    → IsEntered g.L.Run.program g.L.Run.seats Back (said_of c.back-taken.result) c.args.self.now
    c.args.seat.now c.back-taken.new.self (map entry_of c.enter.new.self.journal.items) c.enter.new.self.publisher.pairs
    (record { number = c.seat.inside.number; own = map own_of c.enter.new.own.items; seen = c.enter.new.view.pairs })
here g c =
    let P = g.L.Run.program in
    let items = c.self.inside.log.journal.items in
    let session = c.self.inside.session in
    let after = c.back-taken.new.self in
    let result = c.back-taken.result in
    let kept = c.new-entry.result in
    let mine = c.new-kept.result in
    let pair : Glance = record { calls = vec_len c.enter.new.self.journal; halt = c.halt_at.result } in
    let few : length items < CALLS = search rules in
    let long : vec_len c.enter.new.self.journal ≡ length c.enter.new.self.journal.items = search rules in
    let there : result ≡ Err Memory → ⊥ =
    λ is. let ran : IsTrue c.ran_out.result = c.ran_out.ensures.1 is in let not = c.if-ran_out.false in cc in
    let given = effective (map entry_of items) in
    let by_program : AnswersBack P session.effective c.seat.inside.number (last_given session.effective) (said_of result) ⊎ (result ≡ Err Memory) =
    subst (λ (Q : Program). AnswersBack Q session.effective c.seat.inside.number (last_given session.effective) (said_of result)
    ⊎ (result ≡ Err Memory)) c.self.invariant.program c.back-taken.ensures.due in
    let answers : AnswersBack P given c.seat.inside.number (last_given given) (said_of result) ⊎ (result ≡ Err Memory) =
    subst (λ (counts : List Given). AnswersBack P counts c.seat.inside.number (last_given counts) (said_of result)
    ⊎ (result ≡ Err Memory)) c.self.invariant.effective by_program in
    let due = due_back P given c.seat.inside.number result answers there in
    entered P g.L.Run.seats session items c.self.inside.log.publisher.pairs c.self.invariant c.seat.inside.number
    Back (said_of result) few due
    kept c.new-entry.ensures.seat (ap call_of c.new-entry.ensures.call)
    (c.new-entry.ensures.said ∙ c.said_to_command.ensures) c.enter.new.self.journal.items
    (c.enter.ensures.journal ∙ ap (λ (l : List entry.Entry). l ++ kept ∷ []) c.make_ready.ensures.journal)
    after c.back-taken.ensures.program c.back-taken.ensures.effective c.back-taken.ensures.leads_to c.halt_at.result
    c.halt_at.ensures.place (vec_len c.enter.new.self.journal) long c.enter.new.self.publisher.pairs
    (c.enter.ensures.pairs ∙ ap (λ (l : Listing). l.pairs ++ pair ∷ []) c.make_ready.ensures.publisher)
    c.seat.invariant.among c.args.self.now c.args.seat.now mine c.seat.inside.own.items c.enter.new.own.items c.seat.inside.view.pairs
    c.enter.new.view.pairs c.self.view_is c.seat.view_is
    (ap small_call_of c.new-kept.ensures.call) (ap small_said_of c.new-kept.ensures.said ∙ c.say.ensures)
    (c.enter.ensures.own ∙ ap (λ (l : List own.RecordedCall). l ++ mine ∷ []) c.make_ready.ensures.own)
    (ap (λ (l : Listing). l.pairs) c.enter.ensures.seen.0)
    c.enter.ensures.seen.1

pub invariant_of-self-2 : goal.invariant_of-self-2
invariant_of-self-2 g c = (here g c).locked

pub returns-clause-notes : goal.returns-clause-notes
returns-clause-notes g c = notes_last (here g c)

pub returns-clause-makes : goal.returns-clause-makes
returns-clause-makes g c = makes_last (here g c)

pub returns-clause-enters : goal.returns-clause-enters
returns-clause-enters g c = enters_last (here g c)

pub returns-clause-fits : goal.returns-clause-fits
returns-clause-fits g c =
    fits_last (here g c) (subst (λ (Q : Program). FitsCall Q Back (said_of c.back-taken.result)) c.self.invariant.program c.back-taken.ensures.fits)
