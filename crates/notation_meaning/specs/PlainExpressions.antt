-- Which plain expression an expression of a model means.
use Rattle.std.specs.Prelude.{◌≡◌, ℕ, ◌-◌, ◌/◌, ◌≤◌, ℤ, pos, neg_ℤ, ◌-ℤ◌, ◌≤ℤ◌, ◌<ℤ◌, Bool, true, false, List, [], ◌∷◌, ◌++◌, length, take, drop}
use Rattle.std.specs.Prelude.{Some, slice_get, decimal}
use Rattle.dbg_base.specs.declared.expr.Direction.{Direction}
use Rattle.dbg_base.specs.declared.expr.Operator.{Operator}
use Rattle.dbg_base.specs.declared.expr.Operator.TheVariants.{Add, And, Or}
use Rattle.dbg_base.specs.Evaluation.{Value, Num, Tru}
use Rattle.dbg_base.specs.Trees.{Tree, Number, Variable, Truth, Count, Not, Negate, Binary}
use Rattle.notation_tree.specs.declared.syntax.Expression.{Expression, out-Expression}
use Rattle.notation_tree.specs.declared.syntax.Expression.TheOpen as form
use Rattle.notation_tree.specs.declared.syntax.Link.{Link, out-Link}
use Rattle.notation_tree.specs.declared.syntax.Reference.{Reference, out-Reference}
use Rattle.notation_tree.specs.declared.syntax.Binder.{out-Binder}
use Rattle.notation_tree.specs.declared.syntax.Each.{Each, out-Each}
use Rattle.notation_tree.specs.declared.syntax.FormNode.TheVariants as node
use Rattle.notation_tree.specs.declared.syntax.Definition.{Definition}
use Rattle.notation_meaning.specs.ModelScopes.{Context, Scope, Member, Call, Meant, argument_in}
use Rattle.notation_meaning.specs.ModelValues.{IsSimple, HasValue, HasMembers}

-- what expressions of a process refer to: the context, and in the plain program the names of all processes and those of the variables of
-- the process
pub record Setting : Type 0 where
  pub context : Context
  pub processes : List (List ℕ)
  pub variables : List (List ℕ)

-- a value as it is written: a number below 0 is the negative of one above it
pub data IsWritten : Value → Tree → Type 0 where
  digits : {z : ℤ} → pos 0 ≤ℤ z → IsWritten (Num z) (Number z)
  below_zero : {z : ℤ} → z <ℤ pos 0 → IsWritten (Num z) (Negate (Number (neg_ℤ z)))
  word : {b : Bool} → IsWritten (Tru b) (Truth b)

-- a name with one more index: `_` and its digits
abbrev pub indexed : List ℕ → ℕ → List ℕ
indexed name n = name ++ 95 ∷ decimal n

-- a name with indices is this plain name
pub data HasName (K : Context) : Scope → List ℕ → List Expression → List ℕ → Type 0 where
  no_indices : {s : Scope} {name : List ℕ} → HasName K s name [] name
  more_indices : {s : Scope} {name whole : List ℕ} {n : ℕ} {index : Expression} {indices : List Expression}
      → HasValue K s index (Num (pos n)) → HasName K s (indexed name n) indices whole → HasName K s name (index ∷ indices) whole

-- a reference names the element of this number of these names
pub record Names (K : Context) (s : Scope) (reference : Reference) (names : List (List ℕ)) (number : ℕ) : Type 0 where
  pub name : List ℕ
  pub named : HasName K s (out-Reference reference).name (out-Reference reference).indices.items name
  pub there : slice_get names number ≡ Some name

mutual
  -- the expression means this plain expression in this scope
  pub data Means (S : Setting) : Scope → Expression → Tree → Type 0 where
    simple : {s : Scope} {e : Expression} {v : Value} {t : Tree} → IsSimple S.context s e v → IsWritten v t → Means S s e t
    parameter : {s : Scope} {e : Expression} {at n : ℕ} {t : Tree} (m : Meant) → out-Expression e ≡ form.Parameter at n
        → argument_in s n ≡ Some m → Means S m.scope m.expression t → Means S s e t
    name : {s : Scope} {e : Expression} {i : ℕ} (reference : Reference) → out-Expression e ≡ form.Name reference
        → Names S.context s reference S.variables i → Means S s e (Variable i)
    count : {s : Scope} {e : Expression} {at p : ℕ} {direction : Direction} (other : Reference)
        → out-Expression e ≡ form.Count at direction other → Names S.context s other S.processes p → Means S s e (Count direction p)
    call : {s : Scope} {e : Expression} {at n : ℕ} {t : Tree} (d : Definition) (arguments : _)
        → out-Expression e ≡ form.Call at n arguments → slice_get S.context.definitions n ≡ Some d → length arguments.items ≡ d.count
        → Means S (Call d.first arguments.items s) d.body t → Means S s e t
    opposite : {s : Scope} {e : Expression} {at : ℕ} {t : Tree} (operand : _)
        → out-Expression e ≡ form.Not at operand → Means S s operand.value t → Means S s e (Not t)
    negative : {s : Scope} {e : Expression} {at : ℕ} {t : Tree} (operand : _)
        → out-Expression e ≡ form.Negate at operand → Means S s operand.value t → Means S s e (Negate t)
    chain : {s : Scope} {e : Expression} {at : ℕ} {t : Tree} (first links : _) → out-Expression e ≡ form.Chain at first links
        → ChainMeans S s first.value links.items t → Means S s e t
    form_of : {s : Scope} {e : Expression} {t : Tree} (each : _) → out-Expression e ≡ form.Each each → FormMeans S s each.value t
        → Means S s e t

  -- `sum`, `all`, `some` or `at_least` means this plain expression
  pub data FormMeans (S : Setting) : Scope → Each → Tree → Type 0 where
    sum : {s : Scope} {each : Each} {ms : List ℤ} {t : Tree} → (out-Each each).form ≡ node.Sum
        → HasMembers S.context s (out-Each each).binder ms → Joined S s each Add (Num (pos 0)) ms t → FormMeans S s each t
    all : {s : Scope} {each : Each} {ms : List ℤ} {t : Tree} → (out-Each each).form ≡ node.All
        → HasMembers S.context s (out-Each each).binder ms → Joined S s each And (Tru true) ms t → FormMeans S s each t
    some : {s : Scope} {each : Each} {ms : List ℤ} {t : Tree} → (out-Each each).form ≡ node.Some
        → HasMembers S.context s (out-Each each).binder ms → Joined S s each Or (Tru false) ms t → FormMeans S s each t
    at_least : {s : Scope} {each : Each} {least : Expression} {ms : List ℤ} {k : ℤ} {t : Tree} → (out-Each each).form ≡ node.AtLeast
        → HasMembers S.context s (out-Each each).binder ms → (out-Each each).least ≡ Some least → HasValue S.context s least (Num k)
        → AtLeast S s each k ms t → FormMeans S s each t

  -- operands with operators between them, grouped from the left: the last operator joins all before it and its right operand
  pub data ChainMeans (S : Setting) : Scope → Expression → List Link → Tree → Type 0 where
    first_operand : {s : Scope} {e : Expression} {t : Tree} → Means S s e t → ChainMeans S s e [] t
    last_operand : {s : Scope} {e : Expression} {t u : Tree} {links : List Link} (link : Link) → ChainMeans S s e links t
        → Means S s (out-Link link).operand u → ChainMeans S s e (links ++ (link ∷ [])) (Binary (out-Link link).operator t u)

  -- the expression of a form for each of these members, joined: the first half, rounded up, and the rest; without members it is `nothing`
  pub data Joined (S : Setting) : Scope → Each → Operator → Value → List ℤ → Tree → Type 0 where
    no_members : {s : Scope} {each : Each} {operator : Operator} {nothing : Value} {t : Tree}
        → IsWritten nothing t → Joined S s each operator nothing [] t
    one_member : {s : Scope} {each : Each} {operator : Operator} {nothing : Value} {t : Tree} {m : ℤ}
        → Means S (Member (out-Binder (out-Each each).binder).member m s) (out-Each each).body t
        → Joined S s each operator nothing (m ∷ []) t
    halves : {s : Scope} {each : Each} {operator : Operator} {nothing : Value} {t u : Tree} {ms : List ℤ} → 2 ≤ length ms
        → Joined S s each operator nothing (take (length ms - length ms / 2) ms) t
        → Joined S s each operator nothing (drop (length ms - length ms / 2) ms) u
        → Joined S s each operator nothing ms (Binary operator t u)

  -- that the expression of a form is true for at least `k` of these members
  pub data AtLeast (S : Setting) : Scope → Each → ℤ → List ℤ → Tree → Type 0 where
    enough : {s : Scope} {each : Each} {k : ℤ} {ms : List ℤ} → k ≤ℤ pos 0 → AtLeast S s each k ms (Truth true)
    too_few : {s : Scope} {each : Each} {k : ℤ} {ms : List ℤ} → pos (length ms) <ℤ k → AtLeast S s each k ms (Truth false)
    every : {s : Scope} {each : Each} {k : ℤ} {ms : List ℤ} {t : Tree} → k ≡ pos (length ms)
        → Joined S s each And (Tru true) ms t → AtLeast S s each k ms t
    any : {s : Scope} {each : Each} {k : ℤ} {ms : List ℤ} {t : Tree} → k ≡ pos 1
        → Joined S s each Or (Tru false) ms t → AtLeast S s each k ms t
    either : {s : Scope} {each : Each} {k m : ℤ} {ms : List ℤ} {t r u : Tree} → pos 1 <ℤ k → k <ℤ pos (length (m ∷ ms))
        → Means S (Member (out-Binder (out-Each each).binder).member m s) (out-Each each).body t
        → AtLeast S s each (k -ℤ pos 1) ms r → AtLeast S s each k ms u
        → AtLeast S s each k (m ∷ ms) (Binary Or (Binary And t r) u)
