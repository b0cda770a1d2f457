use Rattle.std.proofs.Common.{subst, List, map}
use Rattle.std.proofs.lemmas.Result.{err_from_is_err_and, MatchResult-weaker}
use Rattle.dbg_desk.specs.declared.settling.TheConstants.{TOGETHER}
use Rattle.dbg_desk.specs.Desks.{SeatState, entry_of}
use Rattle.dbg_desk.specs.Settling.{HasOther}
use Rattle.dbg_desk.proofs.JournalSearchLemmas.{among_few, among_others}
use Rattle.dbg_desk.proofs.settling.+are_kept.Goals as goal

pub returns-in_err-few_are_kept-clause-other : goal.returns-in_err-few_are_kept-clause-other
returns-in_err-few_are_kept-clause-other g t c =
    let p = err_from_is_err_and c.from_residual.result c.from_residual.ensures.1 in
    rw (p.1, p.2)
    (among_few (map entry_of c.args.journal.now) TOGETHER c.args.seats.now c.in_err-few_are_kept.field-0.0.seat
    (subst (λ (l : List SeatState). HasOther (map entry_of c.args.journal.now) l c.in_err-few_are_kept.field-0.0.seat)
    c.split_at.ensures.front c.in_err-few_are_kept.ensures.other))

pub returns-clause-other : goal.returns-clause-other
returns-clause-other g t c =
    MatchResult-weaker c.are_kept.result c.are_kept.ensures.other (λ same done. done)
    (λ mismatch has. among_others (map entry_of c.args.journal.now) TOGETHER c.args.seats.now mismatch.seat
    (subst (λ (l : List SeatState). HasOther (map entry_of c.args.journal.now) l mismatch.seat) c.split_at.ensures.back has))
