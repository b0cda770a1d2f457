-- Values as they are written.
use Rattle.std.proofs.Common.{◌≡◌, ℤ, pos, neg_ℤ, ◌≤ℤ◌, ◌<ℤ◌, Bool}
use Rattle.dbg_base.specs.declared.expr.Expr.{Expr}
use Rattle.dbg_base.specs.Trees.{tree_of, Number, Truth, Negate}
use Rattle.notation_tree.specs.declared.arithmetic.ConstantValue.{ConstantValue}
use Rattle.notation_tree.specs.declared.arithmetic.ConstantValue.TheVariants as constants
use Rattle.notation_tree.specs.ComputedValues.{value_of}
use Rattle.notation_meaning.specs.PlainExpressions.{IsWritten, digits, below_zero, word}

pub written_digits : (value : ConstantValue) (tree : Expr) (m n : ℤ) → value ≡ constants.Number n → tree_of tree ≡ Number m → m ≡ n
    → pos 0 ≤ℤ n → IsWritten (value_of value) (tree_of tree)
written_digits value tree m n e f g le = rw (e, f, g) (digits le)

pub written_word : (value : ConstantValue) (tree : Expr) (a b : Bool) → value ≡ constants.Truth a → tree_of tree ≡ Truth b → a ≡ b
    → IsWritten (value_of value) (tree_of tree)
written_word value tree a b e f g = rw (e, f, g) word

pub written_below : (value : ConstantValue) (tree inner : Expr) (m n : ℤ) → value ≡ constants.Number n
    → tree_of tree ≡ Negate (tree_of inner) → tree_of inner ≡ Number m → m ≡ neg_ℤ n → n <ℤ pos 0 → IsWritten (value_of value) (tree_of tree)
written_below value tree inner m n e f h g lt = rw (e, f, h, g) (below_zero lt)
