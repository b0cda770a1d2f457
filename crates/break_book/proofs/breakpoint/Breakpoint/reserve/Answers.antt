use Rattle.break_book.proofs.BookLoopLemmas.{roomier_one}
use Rattle.break_book.proofs.breakpoint.Breakpoint.reserve.Goals as goal

pub returns-clause-same : goal.returns-clause-same
returns-clause-same c = roomier_one c.self.view_is c.reserve.ensures.same
