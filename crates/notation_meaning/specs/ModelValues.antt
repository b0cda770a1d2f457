-- The values of the expressions that are computed when a model is expanded.
use Rattle.std.specs.Prelude.{◌≡◌, ℕ, ◌-◌, ◌/◌, ◌≤◌, ℤ, pos, ◌+ℤ◌, ◌-ℤ◌, ◌≤ℤ◌, ◌<ℤ◌, Bool, true, false, not, List, [], ◌∷◌, length, take, drop}
use Rattle.std.specs.Prelude.{Some, None, slice_get}
use Rattle.dbg_base.specs.declared.expr.Operator.TheVariants as operator
use Rattle.dbg_base.specs.Evaluation.{Value, Num, Tru, ranged, on_numbers}
use Rattle.notation_tree.specs.declared.syntax.Expression.{Expression, out-Expression}
use Rattle.notation_tree.specs.declared.syntax.Expression.TheOpen as form
use Rattle.notation_tree.specs.declared.syntax.Link.{Link, out-Link}
use Rattle.notation_tree.specs.declared.syntax.Binder.{Binder, out-Binder}
use Rattle.notation_tree.specs.declared.syntax.Each.{Each, out-Each}
use Rattle.notation_tree.specs.declared.syntax.FormNode.TheVariants as node
use Rattle.notation_tree.specs.declared.syntax.Definition.{Definition}
use Rattle.notation_meaning.specs.ModelScopes.{Context, Scope, Member, Call, Meant, member_in, argument_in}

-- in this context, an expression with no other in it has this value in this scope
pub data IsSimple (K : Context) : Scope → Expression → Value → Type 0 where
  number : {s : Scope} {e : Expression} {at : ℕ} {z : ℤ} → out-Expression e ≡ form.Number at z → IsSimple K s e (Num z)
  truth : {s : Scope} {e : Expression} {at : ℕ} {b : Bool} → out-Expression e ≡ form.Truth at b → IsSimple K s e (Tru b)
  constant : {s : Scope} {e : Expression} {at n : ℕ} {v : Value}
      → out-Expression e ≡ form.Constant at n → slice_get K.constants n ≡ Some (Some v) → IsSimple K s e v
  member : {s : Scope} {e : Expression} {at n : ℕ} {z : ℤ}
      → out-Expression e ≡ form.Member at n → member_in s n ≡ Some z → IsSimple K s e (Num z)

mutual
  -- the expression has this value
  pub data HasValue (K : Context) : Scope → Expression → Value → Type 0 where
    simple : {s : Scope} {e : Expression} {v : Value} → IsSimple K s e v → HasValue K s e v
    parameter : {s : Scope} {e : Expression} {at n : ℕ} {v : Value} (m : Meant) → out-Expression e ≡ form.Parameter at n
        → argument_in s n ≡ Some m → HasValue K m.scope m.expression v → HasValue K s e v
    call : {s : Scope} {e : Expression} {at n : ℕ} {v : Value} (d : Definition) (arguments : _)
        → out-Expression e ≡ form.Call at n arguments → slice_get K.definitions n ≡ Some d → length arguments.items ≡ d.count
        → HasValue K (Call d.first arguments.items s) d.body v → HasValue K s e v
    opposite : {s : Scope} {e : Expression} {at : ℕ} {b : Bool} (operand : _)
        → out-Expression e ≡ form.Not at operand → HasValue K s operand.value (Tru b) → HasValue K s e (Tru (not b))
    negative : {s : Scope} {e : Expression} {at : ℕ} {z : ℤ} {v : Value} (operand : _) → out-Expression e ≡ form.Negate at operand
        → HasValue K s operand.value (Num z) → ranged (pos 0 -ℤ z) ≡ Some v → HasValue K s e v
    chain : {s : Scope} {e : Expression} {at : ℕ} {u v : Value} (first links : _) → out-Expression e ≡ form.Chain at first links
        → HasValue K s first.value u → LinksGive K s u links.items v → HasValue K s e v
    form_of : {s : Scope} {e : Expression} {v : Value} (each : _) → out-Expression e ≡ form.Each each → FormGives K s each.value v
        → HasValue K s e v

  -- `sum`, `all`, `some` or `at_least` has this value
  pub data FormGives (K : Context) : Scope → Each → Value → Type 0 where
    sum : {s : Scope} {each : Each} {ms : List ℤ} {z : ℤ} → (out-Each each).form ≡ node.Sum
        → HasMembers K s (out-Each each).binder ms → SumIs K s each ms z → FormGives K s each (Num z)
    all : {s : Scope} {each : Each} {ms : List ℤ} {b : Bool} → (out-Each each).form ≡ node.All
        → HasMembers K s (out-Each each).binder ms → EnoughHold K s each (pos (length ms)) ms b → FormGives K s each (Tru b)
    some : {s : Scope} {each : Each} {ms : List ℤ} {b : Bool} → (out-Each each).form ≡ node.Some
        → HasMembers K s (out-Each each).binder ms → EnoughHold K s each (pos 1) ms b → FormGives K s each (Tru b)
    at_least : {s : Scope} {each : Each} {least : Expression} {ms : List ℤ} {k : ℤ} {b : Bool} → (out-Each each).form ≡ node.AtLeast
        → HasMembers K s (out-Each each).binder ms → (out-Each each).least ≡ Some least → HasValue K s least (Num k)
        → EnoughHold K s each k ms b → FormGives K s each (Tru b)

  -- operators with their right operands, after a left operand of this value, give this value
  pub data LinksGive (K : Context) : Scope → Value → List Link → Value → Type 0 where
    no_links : {s : Scope} {u : Value} → LinksGive K s u [] u
    more_links : {s : Scope} {u w v : Value} {link : Link} {links : List Link}
        → LinkGives K s u link w → LinksGive K s w links v → LinksGive K s u (link ∷ links) v

  -- The same for one operator. The right operand of `and` and `or` counts only where the left one does not decide.
  pub data LinkGives (K : Context) : Scope → Value → Link → Value → Type 0 where
    and_false : {s : Scope} {link : Link} → (out-Link link).operator ≡ operator.And → LinkGives K s (Tru false) link (Tru false)
    and_true : {s : Scope} {link : Link} {b : Bool} → (out-Link link).operator ≡ operator.And
        → HasValue K s (out-Link link).operand (Tru b) → LinkGives K s (Tru true) link (Tru b)
    or_true : {s : Scope} {link : Link} → (out-Link link).operator ≡ operator.Or → LinkGives K s (Tru true) link (Tru true)
    or_false : {s : Scope} {link : Link} {b : Bool} → (out-Link link).operator ≡ operator.Or
        → HasValue K s (out-Link link).operand (Tru b) → LinkGives K s (Tru false) link (Tru b)
    numbers : {s : Scope} {link : Link} {x y : ℤ} {v : Value} → HasValue K s (out-Link link).operand (Num y)
        → on_numbers (out-Link link).operator x y ≡ Some v → LinkGives K s (Num x) link v

  -- the members of a range for which its condition holds, in order
  pub data HasMembers (K : Context) : Scope → Binder → List ℤ → Type 0 where
    range : {s : Scope} {b : Binder} {low high : ℤ} {ms : List ℤ} → HasValue K s (out-Binder b).low (Num low)
        → HasValue K s (out-Binder b).high (Num high) → MembersFrom K s b low high ms → HasMembers K s b ms

  -- the members from `next` on
  pub data MembersFrom (K : Context) : Scope → Binder → ℤ → ℤ → List ℤ → Type 0 where
    range_end : {s : Scope} {b : Binder} {next high : ℤ} → high <ℤ next → MembersFrom K s b next high []
    kept : {s : Scope} {b : Binder} {next high : ℤ} {ms : List ℤ} → next ≤ℤ high
        → ConditionIs K (Member (out-Binder b).member next s) b true → MembersFrom K s b (next +ℤ pos 1) high ms
        → MembersFrom K s b next high (next ∷ ms)
    left_out : {s : Scope} {b : Binder} {next high : ℤ} {ms : List ℤ} → next ≤ℤ high
        → ConditionIs K (Member (out-Binder b).member next s) b false → MembersFrom K s b (next +ℤ pos 1) high ms
        → MembersFrom K s b next high ms

  -- whether the condition of a range holds, where its member has a value; a range without a condition has all its members
  pub data ConditionIs (K : Context) : Scope → Binder → Bool → Type 0 where
    unconditional : {s : Scope} {b : Binder} → (out-Binder b).condition ≡ None → ConditionIs K s b true
    conditional : {s : Scope} {b : Binder} {e : Expression} {t : Bool} → (out-Binder b).condition ≡ Some e
        → HasValue K s e (Tru t) → ConditionIs K s b t

  -- The sum of the expression of a form over these members: the sum of the first half, rounded up, and that of the rest. Each of these sums
  -- is a number of 64 bits.
  pub data SumIs (K : Context) : Scope → Each → List ℤ → ℤ → Type 0 where
    no_terms : {s : Scope} {each : Each} → SumIs K s each [] (pos 0)
    one_term : {s : Scope} {each : Each} {m x : ℤ}
        → HasValue K (Member (out-Binder (out-Each each).binder).member m s) (out-Each each).body (Num x) → SumIs K s each (m ∷ []) x
    two_halves : {s : Scope} {each : Each} {x y z : ℤ} {ms : List ℤ} → 2 ≤ length ms
        → SumIs K s each (take (length ms - length ms / 2) ms) x → SumIs K s each (drop (length ms - length ms / 2) ms) y
        → on_numbers operator.Add x y ≡ Some (Num z) → SumIs K s each ms z

  -- Whether the expression of a form is true for at least `k` of these members. It counts only as far as it decides.
  pub data EnoughHold (K : Context) : Scope → Each → ℤ → List ℤ → Bool → Type 0 where
    enough : {s : Scope} {each : Each} {k : ℤ} {ms : List ℤ} → k ≤ℤ pos 0 → EnoughHold K s each k ms true
    too_few : {s : Scope} {each : Each} {k : ℤ} {ms : List ℤ} → pos (length ms) <ℤ k → EnoughHold K s each k ms false
    holds : {s : Scope} {each : Each} {k m : ℤ} {ms : List ℤ} {b : Bool}
        → HasValue K (Member (out-Binder (out-Each each).binder).member m s) (out-Each each).body (Tru true)
        → EnoughHold K s each (k -ℤ pos 1) ms b → EnoughHold K s each k (m ∷ ms) b
    fails : {s : Scope} {each : Each} {k m : ℤ} {ms : List ℤ} {b : Bool}
        → HasValue K (Member (out-Binder (out-Each each).binder).member m s) (out-Each each).body (Tru false)
        → EnoughHold K s each k ms b → EnoughHold K s each k (m ∷ ms) b
