use Rattle.dbg_command.proofs.CommandUndoLemmas.{if_refused}
use Rattle.dbg_command.proofs.QueryAnswerLemmas.{has_least, has_no_cut, found_here}
use Rattle.dbg_command.proofs.table.Table.cut_of.Goals as goal

pub returns-in_ok-copy-in-Some-cut-clause-of : goal.returns-in_ok-copy-in-Some-cut-clause-of
returns-in_ok-copy-in-Some-cut-clause-of c = λ P is.
    has_least P c.args.self.now is c.args.name c.in-Some.breakpoint.now c.book.result.now
    c.book.ensures c.in-Some.ensures.named c.in-Some.ensures.of c.detector.result.now c.detector.ensures c.in-Some-cut.cut.now
    c.in_ok-copy-in-Some-cut.field-0 c.in-Some-cut.ensures c.in_ok-copy-in-Some-cut.ensures

pub returns-in-None-clause-of : goal.returns-in-None-clause-of
returns-in-None-clause-of c = λ P is.
    has_no_cut P c.args.self.now is c.args.name c.in-Some.breakpoint.now c.book.result.now
    c.book.ensures c.in-Some.ensures.named c.in-Some.ensures.of c.detector.result.now c.detector.ensures c.in-None.ensures

pub returns-in_err-copy-in-Some-cut-clause-memory : goal.returns-in_err-copy-in-Some-cut-clause-memory
returns-in_err-copy-in-Some-cut-clause-memory c =
    if_refused _ (found_here c.args.self.now c.args.name c.in-Some.breakpoint.now c.book.result.now c.book.ensures c.in-Some.ensures.named)
