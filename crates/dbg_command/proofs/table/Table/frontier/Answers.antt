use Rattle.dbg_command.proofs.CommandUndoLemmas.{if_refused}
use Rattle.dbg_command.proofs.QueryAnswerLemmas.{tells_frontier, found_here}
use Rattle.dbg_command.proofs.table.Table.frontier.Goals as goal

pub returns-clause-answers : goal.returns-clause-answers
returns-clause-answers c = λ P is.
    tells_frontier P c.args.self.now is c.args.name c.in-Some.breakpoint.now c.book.result.now
    c.book.ensures c.in-Some.ensures.named c.in-Some.ensures.of c.detector.result.now c.detector.ensures c.in_ok-frontier.field-0
    c.in_ok-frontier.ensures.frontier

pub returns-in_err-frontier-clause-memory : goal.returns-in_err-frontier-clause-memory
returns-in_err-frontier-clause-memory c =
    if_refused _ (found_here c.args.self.now c.args.name c.in-Some.breakpoint.now c.book.result.now c.book.ensures c.in-Some.ensures.named)
