use Rattle.std.proofs.Common.{◌≡◌, ◌<◌, List, [], ◌∷◌, ◌++◌, length, map, vec_len, refl, ap, ◌∙◌, subst, arith, rules}
use Rattle.std.proofs.lemmas.List.{length-map}
use Rattle.dbg_base.specs.declared.limits.TheConstants.{CALLS}
use Rattle.dbg_base.specs.Calls.{Ask, query_of, call_of}
use Rattle.dbg_base.specs.Journals.{LeadsTo, effective}
use Rattle.dbg_board.specs.declared.glance.Glance.{Glance}
use Rattle.dbg_board.specs.Boards.{Listing}
use Rattle.dbg_command.specs.Tables.{AnswersOrRefuses, reported_of}
use Rattle.dbg_records.specs.Small.{small_call_of, small_said_of}
use Rattle.dbg_desk.specs.declared.entry.Entry as entry
use Rattle.dbg_desk.specs.declared.entry.RecordedCall as own
use Rattle.dbg_desk.specs.Desks.{Standing, entry_of, own_of}
use Rattle.dbg_desk.proofs.EnteredCallLemmas.{IsEntered, due_asked, leads_to_still, entered, notes_last, makes_last, enters_last, fits_last}
use Rattle.dbg_desk.proofs.locked.Locked.log_answer.Goals as goal

here : (g : _) (c : goal.After-enter g)
    → IsEntered g.L.Run.program g.L.Run.seats (Ask (query_of c.args.query)) (reported_of c.args.answered) c.args.self.now c.args.seat.now
    c.self.inside.session (map entry_of c.enter.new.self.journal.items) c.enter.new.self.publisher.pairs
    (record { number = c.seat.inside.number; own = map own_of c.enter.new.own.items; seen = c.enter.new.view.pairs })
here g c =
    let items = c.self.inside.log.journal.items in
    let session = c.self.inside.session in
    let kept = c.new-entry.result in
    let mine = c.new-kept.result in
    let pair : Glance = record { calls = vec_len c.enter.new.self.journal; halt = c.halt_at.result } in
    let place = c.requires.place in
    let before = ap (λ (s : Standing). length s.journal) c.self.view_is in
    let same = length-map items entry_of in
    let few : length items < CALLS = omega (arith, place, before, same) in
    let long : vec_len c.enter.new.self.journal ≡ length c.enter.new.self.journal.items = search rules in
    let answers : AnswersOrRefuses g.L.Run.program session.state (query_of c.args.query) c.args.answered =
    c.requires.answers session.state
    (subst (λ (s : Standing). LeadsTo g.L.Run.program (effective s.journal) session.state) c.self.view_is c.self.invariant.leads_to) in
    let due = due_asked g.L.Run.program (effective (map entry_of items)) c.seat.inside.number (query_of c.args.query) session.state
    c.args.answered c.self.invariant.leads_to answers c.in_ok-said.ensures.there in
    entered g.L.Run.program g.L.Run.seats session items c.self.inside.log.publisher.pairs c.self.invariant c.seat.inside.number
    (Ask (query_of c.args.query)) (reported_of c.args.answered) few due
    kept c.new-entry.ensures.seat (ap call_of c.new-entry.ensures.call) (c.new-entry.ensures.said ∙ c.in_ok-said.ensures.said)
    c.enter.new.self.journal.items
    (c.enter.ensures.journal ∙ ap (λ (l : List entry.Entry). l ++ kept ∷ []) c.reserve.ensures.journal)
    session refl refl (leads_to_still _ _ _ _ _ c.self.invariant) c.halt_at.result c.halt_at.ensures.place (vec_len c.enter.new.self.journal) long
    c.enter.new.self.publisher.pairs
    (c.enter.ensures.pairs ∙ ap (λ (l : Listing). l.pairs ++ pair ∷ []) c.reserve.ensures.publisher)
    c.seat.invariant.among c.args.self.now c.args.seat.now mine c.seat.inside.own.items c.enter.new.own.items c.seat.inside.view.pairs
    c.enter.new.view.pairs c.self.view_is c.seat.view_is (ap small_call_of c.new-kept.ensures.call ∙ c.in_ok-own_call.ensures.copies)
    (ap small_said_of c.new-kept.ensures.said ∙ c.in_ok-own_said.ensures ∙ c.in_ok-said.ensures.said)
    (c.enter.ensures.own ∙ ap (λ (l : List own.RecordedCall). l ++ mine ∷ []) c.reserve.ensures.own)
    (ap (λ (l : Listing). l.pairs) c.enter.ensures.seen.0)
    c.enter.ensures.seen.1

pub invariant_of-self-2 : goal.invariant_of-self-2
invariant_of-self-2 g c = (here g c).locked

pub returns-clause-notes : goal.returns-clause-notes
returns-clause-notes g c = notes_last (here g c)

pub returns-clause-makes : goal.returns-clause-makes
returns-clause-makes g c = makes_last (here g c)

pub returns-clause-enters : goal.returns-clause-enters
returns-clause-enters g c = enters_last (here g c)

pub returns-clause-fits : goal.returns-clause-fits
returns-clause-fits g c =
    fits_last (here g c) (c.requires.fits)

pub returns-clause-says : goal.returns-clause-says
returns-clause-says g c = (here g c).last
