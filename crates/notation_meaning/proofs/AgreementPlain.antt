-- The rules of plain expressions, where a list is known by its length, or by an element and the rest.
use Rattle.std.proofs.Common.{◌≡◌, ℕ, ◌-◌, ◌/◌, ◌≤◌, ℤ, pos, ◌-ℤ◌, ◌<ℤ◌, Bool, List, [], ◌∷◌, ◌++◌, length, take, drop, refl, sym, subst, Some}
use Rattle.std.specs.Prelude.{slice_get}
use Rattle.std.proofs.lemmas.List.{nil_from_length}
use Rattle.dbg_base.specs.declared.expr.Operator.{Operator}
use Rattle.dbg_base.specs.declared.expr.Operator.TheVariants.{And, Or}
use Rattle.dbg_base.specs.Evaluation.{Value, Num, Tru}
use Rattle.dbg_base.specs.Trees.{Tree, Truth, Binary}
use Rattle.notation_tree.specs.declared.syntax.Expression.{Expression}
use Rattle.notation_tree.specs.declared.syntax.Link.{Link, out-Link}
use Rattle.notation_tree.specs.declared.syntax.Reference.{Reference}
use Rattle.notation_tree.specs.declared.syntax.Binder.{out-Binder}
use Rattle.notation_tree.specs.declared.syntax.Each.{Each, out-Each}
use Rattle.notation_meaning.specs.ModelScopes.{Context, Scope, Member}
use Rattle.notation_meaning.specs.ModelValues.{HasValue}
use Rattle.notation_meaning.specs.PlainExpressions.{Setting, IsWritten, word, indexed, HasName, no_indices, more_indices, Names, Means, ChainMeans}
use Rattle.notation_meaning.specs.PlainExpressions.{first_operand, last_operand, Joined, no_members, one_member, halves, AtLeast, either}
use Rattle.notation_meaning.specs.AgreementViews.{IsNamed}

-- a truth value, as it is written
pub truth_written : {b : Bool} {t : Tree} → IsWritten (Tru b) t → t ≡ Truth b
truth_written word = refl

module _ (K : Context) (s : Scope) where
  pub name_end : {name : List ℕ} (indices : List Expression) → length indices ≡ 0 → HasName K s name indices name
  name_end indices e = rw (nil_from_length indices e) no_indices

  pub name_goes_on : {name longer whole : List ℕ} {n : ℕ} {value : ℤ} {index : Expression} {indices others : List Expression}
      → HasName K s longer others whole → longer ≡ indexed name n → HasValue K s index (Num value) → value ≡ pos n
      → indices ≡ index ∷ others → HasName K s name indices whole
  name_goes_on {name} {longer} {whole} {n} {value} {index} {indices} {others} rest l h v e =
      let there : HasName K s (indexed name n) others whole = subst (λ z. HasName K s z others whole) l rest in
      let held : HasValue K s index (Num (pos n)) = subst (λ z. HasValue K s index (Num z)) v h in
      rw e (more_indices held there)

  pub names_element : {reference : Reference} {names : List (List ℕ)} {number : ℕ} {whole : List ℕ} → IsNamed K s reference whole
      → slice_get names number ≡ Some whole → Names K s reference names number
  names_element {reference} {names} {number} {whole} h there = record { name = whole; named = h; there = there }

module _ (S : Setting) (s : Scope) where
  pub chain_end : {e : Expression} {t : Tree} (links : List Link) → length links ≡ 0 → Means S s e t → ChainMeans S s e links t
  chain_end links e h = rw (nil_from_length links e) (first_operand h)

  pub chain_goes_on : {e : Expression} {t u whole : Tree} {op : Operator} (link : Link) {before links : List Link} → ChainMeans S s e before t
      → Means S s (out-Link link).operand u → links ≡ before ++ (link ∷ []) → (out-Link link).operator ≡ op → whole ≡ Binary op t u
      → ChainMeans S s e links whole
  chain_goes_on link h one l o w = rw (l, w, sym o) (last_operand link h one)

  pub joined_end : {each : Each} {operator : Operator} {nothing : Value} {t : Tree} (members : List ℤ) → length members ≡ 0
      → IsWritten nothing t → Joined S s each operator nothing members t
  joined_end members e h = rw (nil_from_length members e) (no_members h)

  pub joined_one : {each : Each} {operator : Operator} {nothing : Value} {t : Tree} {m : ℤ} {members : List ℤ} (others : List ℤ)
      → Means S (Member (out-Binder (out-Each each).binder).member m s) (out-Each each).body t → members ≡ m ∷ others → length others ≡ 0
      → Joined S s each operator nothing members t
  joined_one others h e l = rw (e, nil_from_length others l) (one_member h)

  pub joined_halves : {each : Each} {operator found : Operator} {nothing : Value} {t u whole : Tree} {prefix rest members : List ℤ}
      → Joined S s each operator nothing prefix t → Joined S s each operator nothing rest u → 2 ≤ length members
      → prefix ≡ take (length members - length members / 2) members → rest ≡ drop (length members - length members / 2) members
      → operator ≡ found → whole ≡ Binary found t u → Joined S s each operator nothing members whole
  joined_halves {each} {operator} {found} {nothing} {t} {u} {whole} {prefix} {rest} {members} h k two p r o w =
      rw (w, sym o) (halves two (subst (λ z. Joined S s each operator nothing z t) p h) (subst (λ z. Joined S s each operator nothing z u) r k))

  pub either_way : {each : Each} {k below m : ℤ} {members others : List ℤ} {t r u whole : Tree} → AtLeast S s each below others r
      → AtLeast S s each k others u → Means S (Member (out-Binder (out-Each each).binder).member m s) (out-Each each).body t
      → members ≡ m ∷ others → below ≡ k -ℤ pos 1 → pos 1 <ℤ k → k <ℤ pos (length members) → whole ≡ Binary Or (Binary And t r) u
      → AtLeast S s each k members whole
  either_way {each} {k} {below} {m} {members} {others} {t} {r} {u} {whole} with_it without one e b more fewer w =
      let fits : k <ℤ pos (length (m ∷ others)) = subst (λ z. k <ℤ pos (length z)) e fewer in
      rw (e, w) (either more fits one (subst (λ z. AtLeast S s each z others r) b with_it) without)
