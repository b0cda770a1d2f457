use Rattle.std.proofs.Common.{sym, ◌∙◌, ap, rules, arith}
use Rattle.std.proofs.lemmas.Int.{ints}
use Rattle.dbg_base.specs.Trees.{tree_of, Negate}
use Rattle.notation_meaning.proofs.AgreementWritten.{written_digits, written_word, written_below}
use Rattle.notation_meaning.proofs.written.is_written.Goals as goal

pub returns-then-number-ge0 : goal.returns-then-number-ge0
returns-then-number-ge0 c =
    written_digits _ _ _ _ c.in-Number.is (ap tree_of c.in-Number-tree.is) (first_of (search rules, grind (arith, ints)))
    (first_of (omega (arith, ints), grind (arith, ints)))

pub returns-else-truth-found : goal.returns-else-truth-found
returns-else-truth-found c =
    written_word _ _ _ _ c.in-Truth.is (ap tree_of c.in-Truth-tree.is) (first_of (search rules, grind arith))

pub returns-else-found-number-2 : goal.returns-else-found-number-2
returns-else-found-number-2 c =
    written_below _ _ c.deref.result.now _ _ c.in-Number.is (ap tree_of c.in-Negate.is ∙ ap (λ x. Negate (tree_of x)) (sym c.deref.ensures))
    (ap tree_of c.in-Number-deref.is) (first_of (search rules, omega (arith, ints), grind (arith, ints)))
    (first_of (omega (arith, ints), grind (arith, ints)))
