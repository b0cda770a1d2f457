use Rattle.std.proofs.Common.{◌≤◌, length, sym, subst, ap, arith}
use Rattle.causal_world.proofs.WorldCallLemmas.{kinds_placed}
use Rattle.break_book.specs.Books.{AreDetectorsOf}
use Rattle.break_book.proofs.book.Book.reserve_to.Goals as goal

pub reserve_each_to-requires : goal.reserve_each_to-requires
reserve_each_to-requires c =
    let kinds = ap (λ l. length l) c.tally.ensures.kinds in
    let few : length c.args.cut.now ≤ c.processes.result = omega (arith, c.requires, c.processes.ensures, kinds, kinds_placed c.args.world.now c.tally.ensures.world) in
    record { steps = c.steps_up_to-steps.ensures few }

pub returns-in_err-reserve_each_to-clause-of : goal.returns-in_err-reserve_each_to-clause-of
returns-in_err-reserve_each_to-clause-of c = λ w are.
    let same = c.reserve_each_to.ensures.same in
    same.detectors w (subst (AreDetectorsOf w) (sym c.self.view_is) are)

pub returns-clause-of : goal.returns-clause-of
returns-clause-of c = λ w are.
    let same = c.reserve_each_to.ensures.same in
    same.detectors w (subst (AreDetectorsOf w) (sym c.self.view_is) are)
