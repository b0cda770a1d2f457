use Rattle.std.proofs.Common.{sym, ◌∙◌, ap}
use Rattle.dbg_base.specs.Trees.{tree_of, Negate}
use Rattle.notation_meaning.proofs.written.operand_of_minus.Goals as goal

pub returns-in-Negate : goal.returns-in-Negate
returns-in-Negate c = ap tree_of c.in-Negate.is ∙ ap (λ x. Negate (tree_of x)) (sym c.deref.ensures)
