use Rattle.std.proofs.Common.{◌≤ℤ◌, ◌<ℤ◌, pos, sym, ◌∙◌, ap, rules, arith}
use Rattle.std.proofs.lemmas.Int.{ints, to_z-of_z}
use mir.Syntax.{w64}
use mir.Val.{SFits, to_z}
use Rattle.notation_tree.specs.declared.syntax.Expression.{out-Expression}
use Rattle.notation_tree.specs.declared.syntax.Expression.TheViews as view
use Rattle.notation_meaning.specs.AgreementViews.{context_of, scope_of}
use Rattle.notation_meaning.specs.ModelValues as v
use Rattle.notation_meaning.proofs.Outcomes.{on_ok}
use Rattle.notation_meaning.proofs.AgreementLemmas as lemma
use Rattle.notation_meaning.proofs.values.+values.Goals as goal
use Rattle.notation_meaning.proofs.values.+values.Goals.{between-then-branch+in_ok-push, between-else-branch}

pub between-returns-then-next-high : goal.between-returns-then-next-high
between-returns-then-next-high t c =
    let fl : SFits w64 c.args.low = search rules in let fh : SFits w64 c.args.high = search rules in
    let lt : c.args.high <ℤ to_z w64 c.loop.next-bits = grind (arith, ints) in
    lemma.continue_end _ _ _ _ _ _ c.args.low _ (simp to_z-of_z at c.loop.invariant) lt

pub between-loop-preserved : goal.between-loop-preserved
between-loop-preserved t c =
    let fl : SFits w64 c.args.low = search rules in let fh : SFits w64 c.args.high = search rules in
    let ff : SFits w64 c.in-Some.following = search rules in
    let inv = simp to_z-of_z at c.loop.invariant in
    let le : to_z w64 c.loop.next-bits ≤ℤ c.args.high = grind (arith, ints) in
    let next : lemma.Continues (context_of c.args.known.now) (scope_of c.args.scope.now) c.args.binder.now c.args.low c.args.high
    c.in-Some.following c.if-branch.found.items =
    elim c.if-branch.branch [
      | between-then-branch+in_ok-push w ↦
          lemma.continue_kept _ _ _ _ _ _ _ _ inv le (rw w.if-branch.true at c.in_ok-condition.ensures) c.in-Some.ensures.1 _
          (rw w.found-is w.in_ok-push.ensures.items)
      | between-else-branch w ↦
          rw w.found-is (lemma.continue_left_out _ _ _ _ _ _ _ _ inv le (rw w.if-branch.false at c.in_ok-condition.ensures)
          c.in-Some.ensures.1)
    ] in
    λ ms rest. simp to_z-of_z (next ms (simp to_z-of_z at rest))

pub condition-returns-in-None : goal.condition-returns-in-None
condition-returns-in-None t c = v.unconditional c.in-None.is

pub condition-returns-in-Some : goal.condition-returns-in-Some
condition-returns-in-Some t c =
    on_ok c.truth.result c.truth.ensures (λ b h. v.conditional c.in-Some.is h)

pub enough-returns-then-missing-le0 : goal.enough-returns-then-missing-le0
enough-returns-then-missing-le0 t c =
    let f : SFits w64 c.args.least = search rules in
    lemma.enough_now _ _ c.loop-first.rest.now (simp to_z-of_z at c.loop-first.invariant) (omega (arith, ints))

pub enough-returns-then-count-missing : goal.enough-returns-then-count-missing
enough-returns-then-count-missing t c =
    let f : SFits w64 c.args.least = search rules in
    lemma.too_few_left _ _ c.loop-first.rest.now (simp to_z-of_z at c.loop-first.invariant) (omega (arith, ints, c.in_ok-count.ensures))

pub enough-loop-first-preserved-then-branch : goal.enough-loop-first-preserved-then-branch
enough-loop-first-preserved-then-branch t c =
    lemma.one_holds _ _ c.loop-first.rest.now c.loop-first.invariant c.in_ok-truth.ensures c.if-branch.true
    (first_of (cc (c.in-Some.ensures.cases.0), search rules, grind (arith, c.in-Some.ensures.cases.0))) (grind (arith, ints, to_z-of_z))

pub enough-loop-first-preserved : goal.enough-loop-first-preserved
enough-loop-first-preserved t c =
    lemma.one_fails _ _ c.loop-first.rest.now c.loop-first.invariant c.in_ok-truth.ensures c.if-branch.false
    (first_of (cc (c.in-Some.ensures.cases.0), search rules, grind (arith, c.in-Some.ensures.cases.0)))

pub enough-returns-then-missing-le0-2 : goal.enough-returns-then-missing-le0-2
enough-returns-then-missing-le0-2 t c =
    let f : SFits w64 c.args.least = search rules in
    lemma.enough_now _ _ c.loop-first.rest.now (simp to_z-of_z at c.loop-first.invariant) (omega (arith, ints))

pub enough-returns : goal.enough-returns
enough-returns t c =
    let f : SFits w64 c.args.least = search rules in
    lemma.too_few_left _ _ c.loop-first.rest.now (simp to_z-of_z at c.loop-first.invariant)
    (omega (arith, ints, c.in_default.ensures.cases))

pub linked-loop-link-init : goal.linked-loop-link-init
linked-loop-link-init t c = λ v h. h

pub linked-loop-link-preserved : goal.linked-loop-link-preserved
linked-loop-link-preserved t c =
    lemma.links_step _ _ _ c.loop-link.rest.now c.loop-link.invariant c.in_ok-held.ensures c.in-Some.ensures.cases.0

pub linked-returns : goal.linked-returns
linked-returns t c = lemma.links_end _ _ _ c.loop-link.rest.now c.loop-link.invariant c.in_default.ensures.cases

pub between-returns-in_default : goal.between-returns-in_default
between-returns-in_default t c =
    let fl : SFits w64 c.args.low = search rules in let fh : SFits w64 c.args.high = search rules in
    let inv = simp to_z-of_z at c.loop.invariant in
    let le : to_z w64 c.loop.next-bits ≤ℤ c.args.high = grind (arith, ints) in
    let ge : c.args.high ≤ℤ to_z w64 c.loop.next-bits = grind (arith, ints, c.in_default.ensures) in
    elim c.if-branch.branch [
      | between-then-branch+in_ok-push w ↦
          lemma.continue_last _ _ _ _ _ _ (pos 0) _ inv ge le (rw w.if-branch.true at c.in_ok-condition.ensures) _
          (rw w.found-is w.in_ok-push.ensures.items)
      | between-else-branch w ↦
          rw w.found-is (lemma.continue_last_out _ _ _ _ _ _ (pos 0) _ inv ge le (rw w.if-branch.false at c.in_ok-condition.ensures))
    ]

pub members-returns : goal.members-returns
members-returns t c =
    let fl : SFits w64 c.in_ok-low.low = search rules in let fh : SFits w64 c.in_ok-high.high = search rules in
    on_ok c.between.result c.between.ensures (λ ms h. v.range c.in_ok-low.ensures c.in_ok-high.ensures (simp to_z-of_z at h))

pub one_link-returns-then-not-held : goal.one_link-returns-then-not-held
one_link-returns-then-not-held t c = lemma.and_decided _ _ c.in-Truth.is (first_of (search rules, grind arith)) c.in-And.is

pub one_link-returns-then-held : goal.one_link-returns-then-held
one_link-returns-then-held t c = lemma.or_decided _ _ c.in-Truth.is c.if-held.true c.in-Or.is

pub one_link-returns-in_ok-right-in-And : goal.one_link-returns-in_ok-right-in-And
one_link-returns-in_ok-right-in-And t c =
    lemma.and_open _ _ c.in-Truth.is (first_of (search rules, grind arith)) c.in-And.is c.in_ok-right-in-And.ensures

pub one_link-returns-in_ok-right-in-Or : goal.one_link-returns-in_ok-right-in-Or
one_link-returns-in_ok-right-in-Or t c = lemma.or_open _ _ c.in-Truth.is c.if-held.false c.in-Or.is c.in_ok-right-in-Or.ensures

pub one_link-returns-in-Some : goal.one_link-returns-in-Some
one_link-returns-in-Some t c =
    let fx : SFits w64 c.in-Number.x = search rules in let fy : SFits w64 c.in_ok-y-in-Number.y = search rules in
    rw c.in-Number.is (v.numbers c.in_ok-y-in-Number.ensures (sym (simp to_z-of_z at c.in-Some.ensures)))

pub sum-returns-in-None : goal.sum-returns-in-None
sum-returns-in-None t c = lemma.sum_end _ _ _ c.in-None.ensures.cases

pub sum-returns-then-others-eq0 : goal.sum-returns-then-others-eq0
sum-returns-then-others-eq0 t c =
    on_ok c.number.result c.number.ensures (λ z h. lemma.sum_one _ _ c.in-Some.others.now h (first_of (cc (c.in-Some.ensures.cases.0), search rules, grind (arith, c.in-Some.ensures.cases.0)))
    (first_of (search rules, omega arith)))

pub sum-returns-in-Number : goal.sum-returns-in-Number
sum-returns-in-Number t c =
    let fx : SFits w64 c.in_ok-x-in-Some.x = search rules in let fy : SFits w64 c.in_ok-y-in-Some.y = search rules in
    let ft : SFits w64 c.in-Number.total = search rules in
    let e = rw c.in-Number.is at (simp to_z-of_z at c.in-Some-calculated.ensures) in
    simp to_z-of_z
    (lemma.sum_halves _ _ c.in_ok-x-in-Some.ensures c.in_ok-y-in-Some.ensures
    (first_of (omega (arith, c.in-Some.ensures.cases.1), grind (arith, c.in-Some.ensures.cases.1)))
    c.split_at.ensures.front c.split_at.ensures.back (sym e))

pub value-returns-in-Some : goal.value-returns-in-Some
value-returns-in-Some t c = v.simple c.in-Some.ensures

pub value-returns-in-Some-argument : goal.value-returns-in-Some-argument
unfolding out-Expression denote.Hole.Carrier.out
value-returns-in-Some-argument t c =
    on_ok c.value.result c.value.ensures (λ x h. v.parameter _ (ap out-Expression c.in-Parameter.is) c.in-Some-argument.ensures h)

pub value-returns-in_ok-definition-in-Call : goal.value-returns-in_ok-definition-in-Call
value-returns-in_ok-definition-in-Call t c =
    let d = rw c.as_slice.ensures.value at c.in_ok-definition-in-Call.ensures in
    on_ok c.value-in-Call.result c.value-in-Call.ensures (λ x h. v.call _ _ (ap out-Expression c.in-Call.is ∙ view.outs-Call c.in-Call.field-0 c.in-Call.number c.in-Call.arguments) d.0 d.1
    (rw c.as_slice-in-Call.ensures.value at h))

pub value-returns-in_ok-held-in-Not : goal.value-returns-in_ok-held-in-Not
unfolding out-Expression denote.Hole.Carrier.out
value-returns-in_ok-held-in-Not t c =
    v.opposite _ (ap out-Expression c.in-Not.is) (rw c.deref.ensures at c.in_ok-held-in-Not.ensures)

pub value-returns-in-Some-negated : goal.value-returns-in-Some-negated
unfolding out-Expression denote.Hole.Carrier.out
value-returns-in-Some-negated t c =
    let f : SFits w64 c.in_ok-held-in-Negate.held = search rules in
    v.negative _ (ap out-Expression c.in-Negate.is) (rw c.deref-in-Negate.ensures at c.in_ok-held-in-Negate.ensures)
    (sym (simp to_z-of_z at c.in-Some-negated.ensures))

pub value-returns-in_ok-left-in-Chain : goal.value-returns-in_ok-left-in-Chain
value-returns-in_ok-left-in-Chain t c =
    on_ok c.linked.result c.linked.ensures (λ x h. v.chain _ _ (ap out-Expression c.in-Chain.is ∙ view.outs-Chain c.in-Chain.field-0 c.in-Chain.first c.in-Chain.links)
    (rw c.deref-in-Chain.ensures at c.in_ok-left-in-Chain.ensures) (rw c.as_slice-in-Chain.ensures.value at h))

pub value-returns-in-Each : goal.value-returns-in-Each
value-returns-in-Each t c =
    on_ok c.form_value.result c.form_value.ensures (λ x h. v.form_of _ (ap out-Expression c.in-Each.is ∙ view.outs-Each c.in-Each.each) (rw c.deref-in-Each.ensures at h))

pub form_value-returns-in-Sum : goal.form_value-returns-in-Sum
form_value-returns-in-Sum t c =
    let f : SFits w64 c.in_ok-total-in-Sum.total = search rules in
    simp to_z-of_z (v.sum c.in-Sum.is c.in_ok-found.ensures (rw c.as_slice.ensures.value at c.in_ok-total-in-Sum.ensures))

pub form_value-returns-in-All : goal.form_value-returns-in-All
form_value-returns-in-All t c =
    let f : SFits w64 c.in_ok-count-in-All.count = search rules in
    let enough = simp to_z-of_z at c.in_ok-all-in-All.ensures in
    v.all c.in-All.is c.in_ok-found.ensures
    (rw (c.as_slice-in-All-2.ensures.value, c.in_ok-count-in-All.ensures, c.as_slice-in-All.ensures.value) at enough)

pub form_value-returns-in-Some : goal.form_value-returns-in-Some
form_value-returns-in-Some t c =
    v.some c.in-Some.is c.in_ok-found.ensures (rw c.as_slice-in-Some.ensures.value at c.in_ok-some-in-Some.ensures)

pub form_value-returns : goal.form_value-returns
form_value-returns t c =
    let f : SFits w64 c.in_ok-wanted-in-AtLeast.wanted = search rules in
    let enough = simp to_z-of_z at c.in_ok-held-in-AtLeast.ensures in
    v.at_least c.in-AtLeast.is c.in_ok-found.ensures c.in-Some-least.is c.in_ok-wanted-in-AtLeast.ensures
    (rw c.as_slice-in-AtLeast.ensures.value at enough)
