use Rattle.std.proofs.Common.{◌≡◌, refl, ◌∙◌, ap, rules, arith}
use Rattle.std.proofs.lemmas.Int.{ints, to_z-of_z}
use mir.Syntax.{w64}
use mir.Val.{SFits}
use Rattle.dbg_base.specs.declared.expr.Operator.TheVariants as operator
use Rattle.dbg_base.specs.Trees.{tree_of}
use Rattle.notation_tree.specs.declared.syntax.Expression.{out-Expression}
use Rattle.notation_tree.specs.declared.syntax.Expression.TheViews as view
use Rattle.notation_meaning.specs.PlainExpressions as p
use Rattle.notation_meaning.proofs.Outcomes.{on_ok}
use Rattle.notation_meaning.proofs.AgreementPlain as lemma
use Rattle.notation_meaning.proofs.plain.+meaning.Goals as goal

pub at_least-returns-then-least-le0 : goal.at_least-returns-then-least-le0
at_least-returns-then-least-le0 t c =
    on_ok c.is_written.result c.is_written.ensures (λ x h. rw (lemma.truth_written {t = tree_of c.args.tree.now} h) (p.enough {k = c.args.least} (omega (arith, ints))))

pub at_least-returns-then-count-least : goal.at_least-returns-then-count-least
at_least-returns-then-count-least t c =
    on_ok c.is_written-then-count-least.result c.is_written-then-count-least.ensures (λ x h. rw (lemma.truth_written {t = tree_of c.args.tree.now} h)
    (p.too_few {k = c.args.least} {ms = c.args.members.now} (omega (arith, ints, c.in_ok-count.ensures))))

pub at_least-returns-then-least-count : goal.at_least-returns-then-least-count
at_least-returns-then-least-count t c =
    on_ok c.joined.result c.joined.ensures (λ x h. p.every (omega (arith, ints, c.in_ok-count.ensures)) h)

pub at_least-returns-then-least-eq1 : goal.at_least-returns-then-least-eq1
at_least-returns-then-least-eq1 t c =
    on_ok c.joined-then-least-eq1.result c.joined-then-least-eq1.ensures (λ x h. p.any (omega (arith, ints)) h)

pub at_least-returns : goal.at_least-returns
at_least-returns t c =
    let f : SFits w64 c.args.least = search rules in simp to_z-of_z at c.either.ensures

pub either-returns : goal.either-returns
either-returns t c =
    let f : SFits w64 c.args.least = search rules in
    let o : c.in-Binary-Or-default-default.field-0 ≡ operator.Or = first_of (cc, search rules, grind arith) in
    let a : c.in-Binary-And-default-default.field-0 ≡ operator.And = first_of (cc, search rules, grind arith) in
    on_ok c.at_least-2.result c.at_least-2.ensures (λ x h. lemma.either_way _ _ (rw c.deref-3.ensures at c.in_ok-at_least.ensures)
    (rw c.deref-4.ensures at (simp to_z-of_z at h))
    (rw c.deref-2.ensures at c.in_ok-means.ensures) (first_of (cc (c.in-Some.ensures.cases.0), search rules, grind (arith, c.in-Some.ensures.cases.0))) (omega (arith, ints))
    c.requires.above c.requires.below
    (rw (c.in-Binary-Or-default-default.is, o, ← c.deref.ensures, c.in-Binary-And-default-default.is, a) refl))

pub chain_means-returns-in-None : goal.chain_means-returns-in-None
chain_means-returns-in-None t c =
    on_ok c.means.result c.means.ensures (λ x h. lemma.chain_end _ _ _ c.in-None.ensures.cases h)

pub chain_means-returns-in_ok-chain_means-in-Some : goal.chain_means-returns-in_ok-chain_means-in-Some
chain_means-returns-in_ok-chain_means-in-Some t c =
    on_ok c.means-in-Some.result c.means-in-Some.ensures (λ x h. lemma.chain_goes_on _ _ c.in-Some.link.now (rw c.deref.ensures at c.in_ok-chain_means-in-Some.ensures)
    (rw c.deref-in-Some.ensures at h) c.in-Some.ensures.cases.0 (search rules) (ap tree_of c.in-Binary.is))

pub joined-returns-then-others-eq0 : goal.joined-returns-then-others-eq0
joined-returns-then-others-eq0 t c =
    on_ok c.means.result c.means.ensures (λ x h. lemma.joined_one _ _ c.in-Some.others.now h
    (first_of (cc (c.in-Some.ensures.cases.0), search rules, grind (arith, c.in-Some.ensures.cases.0))) (first_of (search rules, omega arith)))

pub joined-returns-in-None : goal.joined-returns-in-None
joined-returns-in-None t c =
    on_ok c.is_written.result c.is_written.ensures (λ x h. lemma.joined_end _ _ _ c.in-None.ensures.cases h)

pub joined-returns-in_ok-joined-in-Some : goal.joined-returns-in_ok-joined-in-Some
joined-returns-in_ok-joined-in-Some t c =
    on_ok c.joined-in-Some.result c.joined-in-Some.ensures (λ x h. lemma.joined_halves _ _ (rw c.deref.ensures at c.in_ok-joined-in-Some.ensures) (rw c.deref-in-Some.ensures at h)
    (first_of (omega (arith, c.in-Some.ensures.cases.1), grind (arith, c.in-Some.ensures.cases.1)))
    c.split_at.ensures.front c.split_at.ensures.back (search rules) (ap tree_of c.in-Binary.is))

pub means-returns-in-Some : goal.means-returns-in-Some
means-returns-in-Some t c =
    on_ok c.is_written.result c.is_written.ensures (λ x h. p.simple c.in-Some.ensures h)

pub means-returns-in-Some-argument : goal.means-returns-in-Some-argument
unfolding out-Expression denote.Hole.Carrier.out
means-returns-in-Some-argument t c =
    on_ok c.means.result c.means.ensures (λ x h. p.parameter _ (ap out-Expression c.in-Parameter.is) c.in-Some-argument.ensures h)

pub means-returns-in-Name : goal.means-returns-in-Name
means-returns-in-Name t c =
    on_ok c.is_variable.result c.is_variable.ensures (λ x h. rw h.1 (p.name _ (ap out-Expression c.in-Name.is ∙ view.outs-Name c.in-Name.reference) h.2))

pub means-returns-in-Count : goal.means-returns-in-Count
means-returns-in-Count t c =
    on_ok c.is_count.result c.is_count.ensures (λ x h. rw h.1 (p.count _ (ap out-Expression c.in-Count.is ∙ view.outs-Count c.in-Count.field-0 c.in-Count.direction c.in-Count.other) h.2))

pub means-returns-in_ok-definition-in-Call : goal.means-returns-in_ok-definition-in-Call
means-returns-in_ok-definition-in-Call t c =
    let d = rw c.as_slice.ensures.value at c.in_ok-definition-in-Call.ensures in
    on_ok c.means-in-Call.result c.means-in-Call.ensures (λ x h. p.call _ _ (ap out-Expression c.in-Call.is ∙ view.outs-Call c.in-Call.field-0 c.in-Call.number c.in-Call.arguments) d.0 d.1
    (rw c.as_slice-in-Call.ensures.value at h))

pub means-returns-in_ok-found-in-Not : goal.means-returns-in_ok-found-in-Not
means-returns-in_ok-found-in-Not t c =
    on_ok c.means-in-Not.result c.means-in-Not.ensures (λ x h. rw c.in_ok-found-in-Not.ensures
    (p.opposite _ (ap out-Expression c.in-Not.is ∙ view.outs-Not c.in-Not.field-0 c.in-Not.operand) (rw c.deref.ensures at h)))

pub means-returns-in_ok-found-in-Negate : goal.means-returns-in_ok-found-in-Negate
means-returns-in_ok-found-in-Negate t c =
    on_ok c.means-in-Negate.result c.means-in-Negate.ensures (λ x h. rw c.in_ok-found-in-Negate.ensures
    (p.negative _ (ap out-Expression c.in-Negate.is ∙ view.outs-Negate c.in-Negate.field-0 c.in-Negate.operand)
    (rw c.deref-in-Negate.ensures at h)))

pub means-returns-in-Chain : goal.means-returns-in-Chain
means-returns-in-Chain t c =
    on_ok c.chain_means.result c.chain_means.ensures (λ x h. p.chain _ _ (ap out-Expression c.in-Chain.is ∙ view.outs-Chain c.in-Chain.field-0 c.in-Chain.first c.in-Chain.links)
    (rw (c.deref-in-Chain.ensures, c.as_slice-in-Chain.ensures.value) at h))

pub means-returns-in-Each : goal.means-returns-in-Each
means-returns-in-Each t c =
    on_ok c.form_means.result c.form_means.ensures (λ x h. p.form_of _ (ap out-Expression c.in-Each.is ∙ view.outs-Each c.in-Each.each) (rw c.deref-in-Each.ensures at h))

pub form_means-returns-in-Sum : goal.form_means-returns-in-Sum
form_means-returns-in-Sum t c =
    on_ok c.joined.result c.joined.ensures (λ x h. p.sum c.in-Sum.is c.in_ok-found.ensures (rw c.as_slice-members.ensures.value at h))

pub form_means-returns-in-All : goal.form_means-returns-in-All
form_means-returns-in-All t c =
    on_ok c.joined-in-All.result c.joined-in-All.ensures (λ x h. p.all c.in-All.is c.in_ok-found.ensures (rw c.as_slice-members.ensures.value at h))

pub form_means-returns-in-Some : goal.form_means-returns-in-Some
form_means-returns-in-Some t c =
    on_ok c.joined-in-Some.result c.joined-in-Some.ensures (λ x h. p.some c.in-Some.is c.in_ok-found.ensures (rw c.as_slice-members.ensures.value at h))

pub form_means-returns : goal.form_means-returns
form_means-returns t c =
    let f : SFits w64 c.in_ok-wanted-in-AtLeast.wanted = search rules in
    on_ok c.at_least.result c.at_least.ensures (λ x h. p.at_least c.in-AtLeast.is c.in_ok-found.ensures c.in-Some-least.is c.in_ok-wanted-in-AtLeast.ensures
    (rw c.as_slice-members.ensures.value at (simp to_z-of_z at h)))
