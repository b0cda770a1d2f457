-- Steps of the comparison of a model with a plain program, over plain variables.
use Rattle.std.proofs.Common.{◌≡◌, ℤ, pos, ◌+ℤ◌, ◌≤ℤ◌, ◌<ℤ◌, Bool, true, false, List, [], ◌∷◌, ◌++◌, subst, ◌-ℤ◌, ◌-◌, ◌/◌, ◌≤◌, take, drop, length, append_assoc, Some, arith}
use Rattle.std.proofs.lemmas.Int.{ints}
use Rattle.std.proofs.lemmas.List.{append-nil, nil_from_length}
use Rattle.dbg_base.specs.declared.expr.Operator.TheVariants as operator
use Rattle.notation_tree.specs.declared.arithmetic.ConstantValue.{ConstantValue}
use Rattle.notation_tree.specs.declared.arithmetic.ConstantValue.TheVariants as constants
use Rattle.notation_tree.specs.declared.syntax.Link.{Link, out-Link}
use Rattle.notation_tree.specs.declared.syntax.Each.{Each, out-Each}
use Rattle.notation_tree.specs.declared.syntax.Binder.{Binder, out-Binder}
use Rattle.notation_meaning.specs.ModelScopes.{Context, Scope, Member}
use Rattle.notation_tree.specs.ComputedValues.{value_of}
use Rattle.notation_meaning.specs.ModelValues.{HasValue, LinksGive, no_links, more_links, LinkGives, and_false, and_true, or_false, or_true, MembersFrom, range_end, kept, left_out}
use Rattle.notation_meaning.specs.ModelValues.{ConditionIs, SumIs, no_terms, one_term, two_halves, EnoughHold, enough, too_few, holds, fails}
use Rattle.dbg_base.specs.Evaluation.{Value, Num, Tru, on_numbers}

-- what is left of a range, from `at` on, belongs after these members
abbrev pub Continues : Context → Scope → Binder → ℤ → ℤ → ℤ → List ℤ → Type 0
Continues K s b low high at found = (ms : List ℤ) → MembersFrom K s b at high ms → MembersFrom K s b low high (found ++ ms)

-- the operators that are left belong after those so far
abbrev pub LinksGo : Context → Scope → Value → List Link → Value → List Link → Type 0
LinksGo K s first links held rest = (v : Value) → LinksGive K s held rest v → LinksGive K s first links v

-- the members that are left belong after those so far
abbrev pub EnoughGo : Context → Scope → Each → ℤ → List ℤ → ℤ → List ℤ → Type 0
EnoughGo K s each least members missing rest = (b : Bool) → EnoughHold K s each missing rest b → EnoughHold K s each least members b

module _ (K : Context) (s : Scope) (b : Binder) (low high next following : ℤ) (found : List ℤ) where
  pub continue_kept : Continues K s b low high next found → next ≤ℤ high → ConditionIs K (Member (out-Binder b).member next s) b true
      → following ≡ next +ℤ pos 1 → (longer : List ℤ) → longer ≡ found ++ (next ∷ []) → Continues K s b low high following longer
  continue_kept inv le cond e longer f ms rest =
      let at_next : MembersFrom K s b (next +ℤ pos 1) high ms = subst (λ z. MembersFrom K s b z high ms) e rest in
      let whole : MembersFrom K s b low high (found ++ (next ∷ ms)) = inv (next ∷ ms) (kept le cond at_next) in
      rw f (rw append_assoc whole)

  pub continue_left_out : Continues K s b low high next found → next ≤ℤ high
      → ConditionIs K (Member (out-Binder b).member next s) b false → following ≡ next +ℤ pos 1 → Continues K s b low high following found
  continue_left_out inv le cond e ms rest = inv ms (left_out le cond (subst (λ z. MembersFrom K s b z high ms) e rest))

  pub continue_last : Continues K s b low high next found → high ≤ℤ next → next ≤ℤ high
      → ConditionIs K (Member (out-Binder b).member next s) b true → (longer : List ℤ) → longer ≡ found ++ (next ∷ [])
      → MembersFrom K s b low high longer
  continue_last inv ge le cond longer f =
      let lt : high <ℤ (next +ℤ pos 1) = omega (arith, ints) in
      rw f (inv (next ∷ []) (kept le cond (range_end lt)))

  pub continue_last_out : Continues K s b low high next found → high ≤ℤ next → next ≤ℤ high
      → ConditionIs K (Member (out-Binder b).member next s) b false → MembersFrom K s b low high found
  continue_last_out inv ge le cond =
      let lt : high <ℤ (next +ℤ pos 1) = omega (arith, ints) in
      rw append-nil at (inv [] (left_out le cond (range_end lt)))

  pub continue_end : Continues K s b low high next found → high <ℤ next → MembersFrom K s b low high found
  continue_end inv lt = rw append-nil at (inv [] (range_end lt))

-- the same rules, where a list is known by its length or by its first element and the rest
module _ (K : Context) (s : Scope) where
  pub links_end : {u v : Value} (links rest : List Link) → LinksGo K s u links v rest → length rest ≡ 0 → LinksGive K s u links v
  links_end {u} {v} links rest go e = go v (rw (nil_from_length rest e) no_links)

  pub links_step : {u v w : Value} {link : Link} {others : List Link} (links rest : List Link) → LinksGo K s u links v rest
      → LinkGives K s v link w → rest ≡ link ∷ others → LinksGo K s u links w others
  links_step links rest go one e x h = go x (rw e (more_links one h))

  pub and_decided : {left : ConstantValue} {held : Bool} {link : Link} → left ≡ constants.Truth held → held ≡ false
      → (out-Link link).operator ≡ operator.And → LinkGives K s (value_of left) link (Tru false)
  and_decided e f o = rw (e, f) (and_false o)

  pub or_decided : {left : ConstantValue} {held : Bool} {link : Link} → left ≡ constants.Truth held → held ≡ true
      → (out-Link link).operator ≡ operator.Or → LinkGives K s (value_of left) link (Tru true)
  or_decided e f o = rw (e, f) (or_true o)

  pub and_open : {left : ConstantValue} {held b : Bool} {link : Link} → left ≡ constants.Truth held → held ≡ true
      → (out-Link link).operator ≡ operator.And → HasValue K s (out-Link link).operand (Tru b) → LinkGives K s (value_of left) link (Tru b)
  and_open e f o h = rw (e, f) (and_true o h)

  pub or_open : {left : ConstantValue} {held b : Bool} {link : Link} → left ≡ constants.Truth held → held ≡ false
      → (out-Link link).operator ≡ operator.Or → HasValue K s (out-Link link).operand (Tru b) → LinkGives K s (value_of left) link (Tru b)
  or_open e f o h = rw (e, f) (or_false o h)

  pub sum_end : {each : Each} (members : List ℤ) → length members ≡ 0 → SumIs K s each members (pos 0)
  sum_end members e = rw (nil_from_length members e) no_terms

  pub sum_one : {each : Each} {m x : ℤ} {members : List ℤ} (others : List ℤ)
      → HasValue K (Member (out-Binder (out-Each each).binder).member m s) (out-Each each).body (Num x) → members ≡ m ∷ others
      → length others ≡ 0 → SumIs K s each members x
  sum_one others h e l = rw (e, nil_from_length others l) (one_term h)

  pub sum_halves : {each : Each} {x y z : ℤ} {prefix rest members : List ℤ} → SumIs K s each prefix x → SumIs K s each rest y
      → 2 ≤ length members → prefix ≡ take (length members - length members / 2) members
      → rest ≡ drop (length members - length members / 2) members → on_numbers operator.Add x y ≡ Some (Num z) → SumIs K s each members z
  sum_halves {each} {x} {y} h k two p r e =
      two_halves two (subst (λ ms. SumIs K s each ms x) p h) (subst (λ ms. SumIs K s each ms y) r k) e

  pub enough_now : {each : Each} {least missing : ℤ} {members : List ℤ} (rest : List ℤ) → EnoughGo K s each least members missing rest
      → missing ≤ℤ pos 0 → EnoughHold K s each least members true
  enough_now rest go le = go true (enough le)

  pub too_few_left : {each : Each} {least missing : ℤ} {members : List ℤ} (rest : List ℤ)
      → EnoughGo K s each least members missing rest → pos (length rest) <ℤ missing → EnoughHold K s each least members false
  too_few_left rest go lt = go false (too_few lt)

  pub one_holds : {each : Each} {least missing below m : ℤ} {members others : List ℤ} {t : Bool} (rest : List ℤ)
      → EnoughGo K s each least members missing rest
      → HasValue K (Member (out-Binder (out-Each each).binder).member m s) (out-Each each).body (Tru t) → t ≡ true
      → rest ≡ m ∷ others → below ≡ missing -ℤ pos 1 → EnoughGo K s each least members below others
  one_holds {each} {least} {missing} {below} {m} {members} {others} rest go one t e f b h =
      go b (rw e (holds (rw t at one) (let P : ℤ → Type 0 = λ z. EnoughHold K s each z others b in subst P f h)))

  pub one_fails : {each : Each} {least missing m : ℤ} {members others : List ℤ} {t : Bool} (rest : List ℤ)
      → EnoughGo K s each least members missing rest
      → HasValue K (Member (out-Binder (out-Each each).binder).member m s) (out-Each each).body (Tru t) → t ≡ false
      → rest ≡ m ∷ others → EnoughGo K s each least members missing others
  one_fails rest go one t e b h = go b (rw e (fails (rw t at one) h))
