use Rattle.std.proofs.Common.{◌∙◌, ap}
use Rattle.notation_meaning.specs.AgreementViews.{constants_of, copy_of, scope_of, with_members}
use Rattle.notation_meaning.proofs.LineLemmas.{means_there}
use Rattle.notation_meaning.proofs.Outcomes.{on_ok}
use Rattle.notation_meaning.proofs.predicates.check_process.Goals as goal

pub returns : goal.returns
returns c =
    on_ok c.check_text.result c.check_text.ensures (λ x h. record {
      copy = copy_of c.in-Some.copy.now;
      node = c.in_ok-node.node.now;
      expression = c.in_ok-expression.expression.now;
      is_copy = c.in-Some.ensures;
      is_declared = c.in_ok-node.ensures;
      is_chosen = c.in_ok-expression.ensures;
      means =
          λ t reads. means_there c.as_slice-5.ensures.value
          (ap constants_of c.as_slice-6.ensures.value ∙ (rw c.as_slice.ensures.value at c.in_ok-constants.ensures))
          (ap (λ ms. with_members ms (scope_of c.args.scope.now)) c.as_slice-4.ensures.value
          ∙ (rw (c.as_slice-2.ensures.value, c.as_slice-3.ensures.value) at (c.in_ok-members.ensures (scope_of c.args.scope.now))))
          (h t reads);
    })
