-- What contracts see of a value that was computed.
use Rattle.dbg_base.specs.Evaluation.{Value, Num, Tru}
use Rattle.notation_tree.specs.declared.arithmetic.ConstantValue.{ConstantValue}
use Rattle.notation_tree.specs.declared.arithmetic.ConstantValue.TheVariants as constants

-- the value
abbrev pub value_of : ConstantValue → Value
value_of (constants.Number z) = Num z
value_of (constants.Truth b) = Tru b
