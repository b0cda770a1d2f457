-- How much of the grammar is still below a precedence, so that reading an expression ends.
use Rattle.std.specs.Prelude.{ℕ}
use Rattle.notation_parser.specs.declared.parser.Level.{Level}
use Rattle.notation_parser.specs.declared.parser.Level.TheVariants.{Or, And, Comparison, Sum, Product}

abbrev pub rank : Level → ℕ
rank Or = 56
rank And = 51
rank Comparison = 46
rank Sum = 42
rank Product = 38
