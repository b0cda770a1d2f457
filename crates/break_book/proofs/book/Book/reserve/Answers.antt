use Rattle.std.proofs.Common.{sym, subst}
use Rattle.break_book.specs.Books.{AreDetectorsOf}
use Rattle.break_book.proofs.book.Book.reserve.Goals as goal

pub returns-in_err-reserve_each-clause-of : goal.returns-in_err-reserve_each-clause-of
returns-in_err-reserve_each-clause-of c =
    let same = c.reserve_each.ensures.same in
    same.detectors c.args.world.now (subst (AreDetectorsOf c.args.world.now) (sym c.self.view_is) c.requires.of)

pub returns-clause-of : goal.returns-clause-of
returns-clause-of c =
    let same = c.reserve_each.ensures.same in
    same.detectors c.args.world.now (subst (AreDetectorsOf c.args.world.now) (sym c.self.view_is) c.requires.of)
