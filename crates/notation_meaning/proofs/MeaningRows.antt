-- Worked rows of the meaning of models, each built from the rules. Expressions are given by their forms: `one`, `two` and `three` are
-- numbers, and `member_one` is the member of number 1.
use Rattle.std.proofs.Common.{◌≡◌, ℕ, ℤ, pos, negsuc, List, [], ◌∷◌, ◌++◌, Some, None, true, false, refl, sym, subst, arith}
use Rattle.std.specs.Prelude.{codes, slice_get}
use Rattle.std.specs.Fmt.{digits}
use Rattle.std.proofs.lemmas.Int.{ints}
use Rattle.dbg_base.specs.declared.expr.Direction.TheVariants as direction
use Rattle.dbg_base.specs.declared.expr.Operator.TheVariants as operator
use Rattle.dbg_base.specs.Evaluation.{Num, Tru}
use Rattle.dbg_base.specs.Trees as tree
use Rattle.notation_tree.specs.declared.syntax.Expression.{Expression, out-Expression}
use Rattle.notation_tree.specs.declared.syntax.Expression.TheOpen as form
use Rattle.notation_tree.specs.declared.syntax.Link.{Link, out-Link}
use Rattle.notation_tree.specs.declared.syntax.Reference.{Reference, out-Reference}
use Rattle.notation_tree.specs.declared.syntax.Binder.{Binder, out-Binder}
use Rattle.notation_tree.specs.declared.syntax.Each.{Each, out-Each}
use Rattle.notation_tree.specs.declared.syntax.Definition.{Definition}
use Rattle.notation_tree.specs.declared.syntax.Constant.{Constant}
use Rattle.notation_tree.specs.declared.syntax.CommandNode.{CommandNode}
use Rattle.notation_tree.specs.declared.syntax.ItemNode.{ItemNode, out-ItemNode}
use Rattle.notation_tree.specs.declared.syntax.ItemNode.TheOpen as item
use Rattle.notation_meaning.specs.ModelScopes.{Context, Scope, Top, Member, Call}
use Rattle.notation_meaning.specs.ModelValues as v
use Rattle.notation_meaning.specs.ModelValues.{HasValue, LinksGive, HasMembers, MembersFrom, ConditionIs, SumIs, EnoughHold}
use Rattle.notation_meaning.specs.PlainExpressions as p
use Rattle.notation_meaning.specs.PlainExpressions.{Setting, IsWritten, HasName, Names, Means, ChainMeans, Joined, AtLeast}
use Rattle.notation_meaning.specs.ModelFamilies as f
use Rattle.notation_meaning.specs.ModelFamilies.{Place, place_in, PlacesOf, IsIndexed}
use Rattle.notation_meaning.specs.ModelPrograms as m
use Rattle.notation_meaning.specs.ModelPrograms.{Frame, Progress, ItemOf, ItemsOf, CopiesOf, CommandOf, setting_in, label_in, with_constant}

-- values of expressions without others in them
module _ (D : List Definition) (e : Expression) where
  abbrev known : Context
  known = record { definitions = D; constants = None ∷ Some (Num (pos 5)) ∷ [] }

  number_row : out-Expression e ≡ form.Number 0 (pos 3) → HasValue known Top e (Num (pos 3))
  number_row is = v.simple (v.number is)

  truth_row : out-Expression e ≡ form.Truth 0 true → HasValue known Top e (Tru true)
  truth_row is = v.simple (v.truth is)

  constant_row : out-Expression e ≡ form.Constant 0 1 → HasValue known Top e (Num (pos 5))
  constant_row is = v.simple (v.constant is refl)

  -- the innermost member of a number counts
  member_row : out-Expression e ≡ form.Member 0 7 → HasValue known (Member 7 (pos 2) (Member 7 (pos 1) Top)) e (Num (pos 2))
  member_row is = v.simple (v.member is refl)

  -- an argument means what it means at the call, also where the definition has a member of its own
  parameter_row : (a : Expression) → out-Expression e ≡ form.Parameter 0 4 → out-Expression a ≡ form.Member 0 7
      → HasValue known (Member 7 (pos 9) (Call 4 (a ∷ []) (Member 7 (pos 1) Top))) e (Num (pos 1))
  parameter_row a is arg = v.parameter (record { expression = a; scope = Member 7 (pos 1) Top }) is refl (v.simple (v.member arg refl))

-- values of expressions with others in them
module _ (K : Context) (s : Scope) (e one two three : Expression) (is_one : out-Expression one ≡ form.Number 0 (pos 1))
    (is_two : out-Expression two ≡ form.Number 0 (pos 2)) (is_three : out-Expression three ≡ form.Number 0 (pos 3)) where
  not_row : (operand : _) (is : out-Expression e ≡ form.Not 0 operand) → out-Expression operand.value ≡ form.Truth 0 false
      → HasValue K s e (Tru true)
  not_row operand is h = v.opposite operand is (v.simple (v.truth h))

  negative_row : (operand : _) (is : out-Expression e ≡ form.Negate 0 operand) → out-Expression operand.value ≡ form.Number 0 (pos 3)
      → HasValue K s e (Num (negsuc 2))
  negative_row operand is h = v.negative operand is (v.simple (v.number h)) refl

  -- (1 - 2) - 3, from the left
  links_row : (a b : Link) → (out-Link a).operator ≡ operator.Subtract → (out-Link a).operand ≡ two
      → (out-Link b).operator ≡ operator.Subtract → (out-Link b).operand ≡ three
      → LinksGive K s (Num (pos 1)) (a ∷ b ∷ []) (Num (negsuc 3))
  links_row a b ao ae bo be =
      v.more_links (v.numbers {x = pos 1} {y = pos 2} {v = Num (negsuc 0)} (rw ae (v.simple (v.number is_two))) (rw ao refl))
      (v.more_links (v.numbers {x = negsuc 0} {y = pos 3} {v = Num (negsuc 3)} (rw be (v.simple (v.number is_three))) (rw bo refl)) v.no_links)

  -- `false and x` is false, whatever x is
  decided_row : (a : Link) → (out-Link a).operator ≡ operator.And → LinksGive K s (Tru false) (a ∷ []) (Tru false)
  decided_row a ao = v.more_links (v.and_false ao) v.no_links

  -- a definition without parameters means its expression
  call_row : (arguments : _) (is : out-Expression e ≡ form.Call 0 4 arguments) → arguments.items ≡ [] → (d : Definition)
      → slice_get K.definitions 4 ≡ Some d → d.count ≡ 0 → d.body ≡ three → HasValue K s e (Num (pos 3))
  call_row arguments is none d there count body =
      v.call d arguments is there (rw none (sym count)) (rw body (v.simple (v.number is_three)))

  -- the sum over 1..3 of an expression whose value is that of the member, and the empty sum
  sum_row : (each : Each)
      → ((z : ℤ) → HasValue K (Member (out-Binder (out-Each each).binder).member z s) (out-Each each).body (Num z))
      → SumIs K s each (pos 1 ∷ pos 2 ∷ pos 3 ∷ []) (pos 6)
  sum_row each h =
      v.two_halves {x = pos 3} {y = pos 3} (omega arith)
      (v.two_halves {x = pos 1} {y = pos 2} (omega arith) (v.one_term (h (pos 1))) (v.one_term (h (pos 2))) refl) (v.one_term (h (pos 3))) refl

  empty_sum_row : (each : Each) → SumIs K s each [] (pos 0)
  empty_sum_row each = v.no_terms

  -- the range 1..3 without a condition, and 2..1
  range_row : (b : Binder) → (out-Binder b).condition ≡ None → (out-Binder b).low ≡ one → (out-Binder b).high ≡ three
      → HasMembers K s b (pos 1 ∷ pos 2 ∷ pos 3 ∷ [])
  range_row b c l h =
      v.range {low = pos 1} {high = pos 3} (rw l (v.simple (v.number is_one))) (rw h (v.simple (v.number is_three)))
      (v.kept (omega (arith, ints)) (v.unconditional c)
      (v.kept (omega (arith, ints)) (v.unconditional c) (v.kept (omega (arith, ints)) (v.unconditional c) (v.range_end (omega (arith, ints))))))

  empty_range_row : (b : Binder) → (out-Binder b).low ≡ two → (out-Binder b).high ≡ one → HasMembers K s b []
  empty_range_row b l h = v.range {low = pos 2} {high = pos 1} (rw l (v.simple (v.number is_two))) (rw h (v.simple (v.number is_one))) (v.range_end (omega (arith, ints)))

  -- two of three are enough for 2, and the third is not computed
  enough_row : (each : Each) → (out-Each each).body ≡ e → out-Expression e ≡ form.Truth 0 true
      → EnoughHold K s each (pos 2) (pos 1 ∷ pos 2 ∷ pos 3 ∷ []) true
  enough_row each b is = v.holds (rw b (v.simple (v.truth is))) (v.holds (rw b (v.simple (v.truth is))) (v.enough (omega (arith, ints))))

  too_few_row : (each : Each) → EnoughHold K s each (pos 2) (pos 1 ∷ []) false
  too_few_row each = v.too_few (omega (arith, ints))

-- values as they are written
written_number_1 : IsWritten (Num (pos 1)) (tree.Number (pos 1))
written_number_1 = p.digits (omega (arith, ints))

written_number_2 : IsWritten (Num (pos 2)) (tree.Number (pos 2))
written_number_2 = p.digits (omega (arith, ints))

written_row : IsWritten (Num (pos 3)) (tree.Number (pos 3))
written_row = p.digits (omega (arith, ints))

written_below_row : IsWritten (Num (negsuc 2)) (tree.Negate (tree.Number (pos 3)))
written_below_row = p.below_zero (omega (arith, ints))

-- the name of a member of a family
indexed_row : IsIndexed (codes "cell") (pos 1 ∷ pos 12 ∷ []) (codes "cell_1_12")
unfolding digits
indexed_row = f.once_more (f.once_more f.not_indexed)

-- plain expressions
module _ (S : Setting) (s : Scope) (one two three : Expression) (is_one : out-Expression one ≡ form.Number 0 (pos 1))
    (is_two : out-Expression two ≡ form.Number 0 (pos 2)) (is_three : out-Expression three ≡ form.Number 0 (pos 3)) where
  -- `x[2]` is the variable `x_2`
  name_row : (e : Expression) (r : Reference) → out-Expression e ≡ form.Name r → (out-Reference r).name ≡ codes "x"
      → (out-Reference r).indices.items ≡ two ∷ [] → S.variables ≡ codes "x_1" ∷ codes "x_2" ∷ [] → Means S s e (tree.Variable 1)
  unfolding digits
  name_row e r is name indices variables =
      let named : HasName S.context s (codes "x") (two ∷ []) (codes "x_2") = p.more_indices (v.simple (v.number is_two)) p.no_indices in
      p.name r is (record { name = codes "x_2"; named = rw (name, indices) named; there = rw variables refl })

  -- `sent(q)` counts the messages to the process `q`
  count_row : (e : Expression) (r : Reference) → out-Expression e ≡ form.Count 0 direction.Sent r → (out-Reference r).name ≡ codes "q"
      → (out-Reference r).indices.items ≡ [] → S.processes ≡ codes "p" ∷ codes "q" ∷ [] → Means S s e (tree.Count direction.Sent 1)
  count_row e r is name indices processes =
      let named : HasName S.context s (codes "q") [] (codes "q") = p.no_indices in
      p.count r is (record { name = codes "q"; named = rw (name, indices) named; there = rw processes refl })

  -- operators of one precedence join from the left
  chain_row : (a b : Link) → (out-Link a).operand ≡ two → (out-Link b).operand ≡ three
      → ChainMeans S s one (a ∷ b ∷ [])
      (tree.Binary (out-Link b).operator (tree.Binary (out-Link a).operator (tree.Number (pos 1)) (tree.Number (pos 2))) (tree.Number (pos 3)))
  chain_row a b ao bo =
      p.last_operand {links = a ∷ []} b
      (p.last_operand {links = []} a (p.first_operand (p.simple (v.number is_one) written_number_1)) (rw ao (p.simple (v.number is_two) written_number_2)))
      (rw bo (p.simple (v.number is_three) written_row))

-- forms over the members 1, 2, 3 and so on, for which the expression is t1, t2, t3 and so on
module _ (S : Setting) (s : Scope) (each : Each) (t1 t2 t3 t4 t5 : tree.Tree)
    (h1 : Means S (Member (out-Binder (out-Each each).binder).member (pos 1) s) (out-Each each).body t1)
    (h2 : Means S (Member (out-Binder (out-Each each).binder).member (pos 2) s) (out-Each each).body t2)
    (h3 : Means S (Member (out-Binder (out-Each each).binder).member (pos 3) s) (out-Each each).body t3)
    (h4 : Means S (Member (out-Binder (out-Each each).binder).member (pos 4) s) (out-Each each).body t4)
    (h5 : Means S (Member (out-Binder (out-Each each).binder).member (pos 5) s) (out-Each each).body t5) where
  all_of_none_row : Joined S s each operator.And (Tru true) [] (tree.Truth true)
  all_of_none_row = p.no_members p.word

  all_of_one_row : Joined S s each operator.And (Tru true) (pos 1 ∷ []) t1
  all_of_one_row = p.one_member h1

  some_of_two_row : Joined S s each operator.Or (Tru false) (pos 2 ∷ pos 3 ∷ []) (tree.Binary operator.Or t2 t3)
  some_of_two_row = p.halves (omega arith) (p.one_member h2) (p.one_member h3)

  all_of_two_row : Joined S s each operator.And (Tru true) (pos 2 ∷ pos 3 ∷ []) (tree.Binary operator.And t2 t3)
  all_of_two_row = p.halves (omega arith) (p.one_member h2) (p.one_member h3)

  -- ((t1 + t2) + t3) + (t4 + t5)
  sum_of_five_row : Joined S s each operator.Add (Num (pos 0)) (pos 1 ∷ pos 2 ∷ pos 3 ∷ pos 4 ∷ pos 5 ∷ [])
      (tree.Binary operator.Add (tree.Binary operator.Add (tree.Binary operator.Add t1 t2) t3) (tree.Binary operator.Add t4 t5))
  sum_of_five_row =
      p.halves (omega arith)
      (p.halves (omega arith) (p.halves (omega arith) (p.one_member h1) (p.one_member h2)) (p.one_member h3))
      (p.halves (omega arith) (p.one_member h4) (p.one_member h5))

  -- at least 2 of 3: (t1 and (t2 or t3)) or (t2 and t3)
  at_least_row : AtLeast S s each (pos 2) (pos 1 ∷ pos 2 ∷ pos 3 ∷ [])
      (tree.Binary operator.Or (tree.Binary operator.And t1 (tree.Binary operator.Or t2 t3)) (tree.Binary operator.And t2 t3))
  at_least_row = p.either (omega (arith, ints)) (omega (arith, ints)) h1 (p.any refl some_of_two_row) (p.every refl all_of_two_row)

  at_least_none_row : AtLeast S s each (pos 0) (pos 1 ∷ []) (tree.Truth true)
  at_least_none_row = p.enough (omega (arith, ints))

  at_least_many_row : AtLeast S s each (pos 2) (pos 1 ∷ []) (tree.Truth false)
  at_least_many_row = p.too_few (omega (arith, ints))

-- `[x: 1..2][y: 1..2]` gives the places 1 1, 1 2, 2 1 and 2 2, in each of which both members have values
places_row : (K : Context) (x y : Binder) → HasMembers K Top x (pos 1 ∷ pos 2 ∷ [])
    → ((s : Scope) → HasMembers K s y (pos 1 ∷ pos 2 ∷ []))
    → let i : ℕ = (out-Binder x).member in
    let j : ℕ = (out-Binder y).member in
    PlacesOf K (place_in Top ∷ []) (x ∷ y ∷ [])
    (record { scope = Member j (pos 1) (Member i (pos 1) Top); indices = pos 1 ∷ pos 1 ∷ [] }
    ∷ record { scope = Member j (pos 2) (Member i (pos 1) Top); indices = pos 1 ∷ pos 2 ∷ [] }
    ∷ record { scope = Member j (pos 1) (Member i (pos 2) Top); indices = pos 2 ∷ pos 1 ∷ [] }
    ∷ record { scope = Member j (pos 2) (Member i (pos 2) Top); indices = pos 2 ∷ pos 2 ∷ [] } ∷ [])
places_row K x y hx hy =
    f.more_ranges (f.more_places hx f.no_places)
    (f.more_ranges (f.more_places (hy _) (f.more_places (hy _) f.no_places)) f.no_ranges)

-- items
module _ (F : Frame) (s : Scope) (b : Binder) (node : ItemNode) (k : CommandNode) (is : out-ItemNode node ≡ item.Command k) (q : Progress)
    (first second : tree.Command) where
  -- a command in a `for` with the members 1 and 2 is two commands, after those so far
  copies_row : CommandOf (setting_in F q.constants) (Member (out-Binder b).member (pos 1) s) k first
      → CommandOf (setting_in F q.constants) (Member (out-Binder b).member (pos 2) s) k second
      → CopiesOf F s b (node ∷ []) (pos 1 ∷ pos 2 ∷ []) q
      (record q {
        commands = (q.commands ++ (first ∷ [])) ++ (second ∷ []);
        labels = (q.labels ++ (label_in F.family (Member (out-Binder b).member (pos 1) s) k.label ∷ []))
            ++ (label_in F.family (Member (out-Binder b).member (pos 2) s) k.label ∷ []);
      })
  copies_row h1 h2 =
      m.more_copies (m.more_items (m.command_item k is h1) m.no_items)
      (m.more_copies (m.more_items (m.command_item k is h2) m.no_items) m.no_copies)

  -- a `for` without members repeats nothing
  no_copies_row : CopiesOf F s b (node ∷ []) [] q q
  no_copies_row = m.no_copies

-- after `const c = 3;`, where `c` has the number 0, its value is 3
constant_item_row : (F : Frame) (node : ItemNode) (c : Constant) → out-ItemNode node ≡ item.Constant c → c.number ≡ 0
    → out-Expression c.value ≡ form.Number 0 (pos 3)
    → ItemOf F Top node (record { constants = None ∷ []; variables = []; commands = []; labels = [] })
    (record { constants = Some (Num (pos 3)) ∷ []; variables = []; commands = []; labels = [] })
constant_item_row F node c is n value =
    subst
    (λ k. ItemOf F Top node (record { constants = None ∷ []; variables = []; commands = []; labels = [] })
    (record { constants = with_constant (None ∷ []) k (Num (pos 3)); variables = []; commands = []; labels = [] })) n
    (m.constant_item c is (v.simple (v.number value)))
