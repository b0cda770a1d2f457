use Rattle.std.proofs.Common.{sym, ◌∙◌, ap}
use Rattle.dbg_base.specs.Trees.{tree_of, Not}
use Rattle.notation_meaning.proofs.written.operand_of_not.Goals as goal

pub returns-in-Not : goal.returns-in-Not
returns-in-Not c = ap tree_of c.in-Not.is ∙ ap (λ x. Not (tree_of x)) (sym c.deref.ensures)
