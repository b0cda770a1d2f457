use Rattle.std.proofs.Common.{◌∙◌, ap, rules, arith}
use Rattle.notation_tree.specs.declared.syntax.ItemNode.{out-ItemNode}
use Rattle.notation_tree.specs.declared.syntax.ItemNode.TheViews as view
use Rattle.notation_meaning.specs.ModelPrograms.{repeated_items}
use Rattle.notation_meaning.specs.AgreementViews.{progress_of}
use Rattle.notation_meaning.proofs.Outcomes.{on_ok}
use Rattle.notation_meaning.proofs.AgreementParts.{items_step, items_done, copies_step, copies_done}
use Rattle.notation_meaning.proofs.items.+items.Goals as goal

pub copies-loop-first-preserved : goal.copies-loop-first-preserved
copies-loop-first-preserved t c =
    copies_step _ _ _ _ _ c.loop-first.rest.now _ _ _ (progress_of c.args.here.now c.loop-first.progress)
    (progress_of c.args.here.now c.items.new.progress) c.loop-first.invariant (first_of (cc (c.in-Some.ensures.cases.0), search rules, grind (arith, c.in-Some.ensures.cases.0))) c.in_ok-items.ensures

pub copies-returns : goal.copies-returns
copies-returns t c = copies_done _ _ _ _ _ c.loop-first.rest.now _ _ c.loop-first.invariant c.in_default.ensures.cases

pub items-loop-first-preserved : goal.items-loop-first-preserved
items-loop-first-preserved t c =
    items_step _ _ _ c.loop-first.rest.now _ c.in-Some.first.now _ (progress_of c.args.here.now c.loop-first.progress)
    (progress_of c.args.here.now c.item.new.progress) c.loop-first.invariant c.in-Some.ensures.cases.0 c.in_ok-item.ensures

pub items-returns : goal.items-returns
items-returns t c = items_done _ _ _ c.loop-first.rest.now _ _ c.loop-first.invariant c.in_default.ensures.cases

pub item-returns-in_ok-found-in-Repeat : goal.item-returns-in_ok-found-in-Repeat
item-returns-in_ok-found-in-Repeat t c =
    on_ok c.copies.result c.copies.ensures (λ x h. repeated_items _ _ (ap out-ItemNode c.in-Repeat.is ∙ view.outs-Repeat c.in-Repeat.binder c.in-Repeat.repeated)
    c.in_ok-found-in-Repeat.ensures (rw (c.as_slice.ensures.value, c.as_slice-in-Repeat.ensures.value) at h))
