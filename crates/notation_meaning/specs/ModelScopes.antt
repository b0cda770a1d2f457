-- What names mean at a place of a model: constants and members of ranges have values, parameters of definitions have arguments.
use Rattle.std.specs.Prelude.{ℕ, ◌-◌, ◌==◌, ℤ, Bool, ◌&&◌, nat_le, nat_lt, List, length, Option, Some, None, slice_get, if◌then◌else◌}
use Rattle.std.specs.Option.{option_map}
use Rattle.dbg_base.specs.Evaluation.{Value}
use Rattle.notation_tree.specs.declared.syntax.Definition.{Definition}
use Rattle.notation_tree.specs.declared.syntax.Expression.{Expression}

-- the values of constants so far, each by its number; a constant that was not computed yet has none
abbrev pub Constants : Type 0
Constants = List (Option Value)

-- what is the same for all expressions at a place: the definitions of the model, and the constants
pub record Context : Type 0 where
  pub definitions : List Definition
  pub constants : Constants

-- The members of ranges have values, by their numbers. Within a definition its parameters, which are numbered from `first` on, mean these
-- arguments in the scope of the call, which is `outer`.
pub data Scope : Type 0 where
  Top : Scope
  Member : (number : ℕ) (value : ℤ) (outer : Scope) → Scope
  Call : (first : ℕ) (arguments : List Expression) (outer : Scope) → Scope

-- the value of a member
abbrev pub member_in : Scope → ℕ → Option ℤ
member_in Top n = None
member_in (Member number value outer) n = if number == n then Some value else member_in outer n
member_in (Call first arguments outer) n = member_in outer n

-- whether a parameter belongs to the definition with these arguments
abbrev pub is_parameter : ℕ → List Expression → ℕ → Bool
is_parameter first arguments n = nat_le first n && nat_lt (n - first) (length arguments)

-- an expression, and the scope in which it is meant
pub record Meant : Type 0 where
  pub expression : Expression
  pub scope : Scope

-- what a parameter means: the argument in the scope of the call
abbrev pub argument_in : Scope → ℕ → Option Meant
argument_in Top n = None
argument_in (Member number value outer) n = argument_in outer n
argument_in (Call first arguments outer) n =
    if is_parameter first arguments n
    then option_map (λ e. record { expression = e; scope = outer }) (slice_get arguments (n - first))
    else argument_in outer n
