use Rattle.std.proofs.lemmas.Result.{err_from_is_err_and, MatchResult-weaker, on_ok_weaker}
use Rattle.dbg_desk.proofs.JournalSearchLemmas.{all_kept_by, other_next, ended, has_more}
use Rattle.dbg_desk.proofs.settling.few_are_kept.Goals as goal

pub returns-in_err-find_all-clause-other : goal.returns-in_err-find_all-clause-other
returns-in_err-find_all-clause-other g c =
    let p = err_from_is_err_and c.from_residual.result c.from_residual.ensures.1 in
    rw (p.1, p.2)
    (other_next c.args.journal.now c.loop-entry.entry-index c.entry-item.result c.loop-entry-test.true c.entry-item.is c.args.seats.now
    c.loop-entry.found _ c.in_err-find_all.ensures.other c.loop-entry.invariant)

pub loop-entry-preserved : goal.loop-entry-preserved
loop-entry-preserved g c =
    all_kept_by c.args.journal.now c.loop-entry.entry-index c.entry-item.result c.loop-entry-test.true c.entry-item.is c.args.seats.now
    c.loop-entry.found c.find_all.new.found c.in_ok-find_all.ensures.found c.loop-entry.invariant

pub returns-clause-kept : goal.returns-clause-kept
returns-clause-kept g c =
    on_ok_weaker c.have_ended.result
    (ended c.args.journal.now c.loop-entry.entry-index c.loop-entry-test.false c.loop-entry.auto.entry-index-end c.args.seats.now
    c.loop-entry.found c.loop-entry.invariant) c.have_ended.ensures.ended

pub returns-clause-other : goal.returns-clause-other
returns-clause-other g c =
    MatchResult-weaker c.have_ended.result c.have_ended.ensures.other (λ same done. done)
    (λ mismatch more. has_more c.args.journal.now c.loop-entry.entry-index c.loop-entry-test.false c.loop-entry.auto.entry-index-end
    c.args.seats.now c.loop-entry.found c.loop-entry.invariant mismatch.seat more)
