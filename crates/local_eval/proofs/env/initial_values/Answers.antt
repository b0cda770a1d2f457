use Rattle.std.proofs.Common.{ℤ, List, [], ◌∷◌, ◌++◌, ap, ◌∙◌, rules, w64, FitsSigned}
use Rattle.std.proofs.lemmas.Int.{to_z-of_z}
use Rattle.local_eval.proofs.Starts.{take_one_more, take_no_more}
use Rattle.local_eval.proofs.env.initial_values.Goals as goal
use Rattle.local_eval.proofs.env.initial_values.Goals.{in-Some+in_ok-push, in_default}

pub loop-index-preserved : goal.loop-index-preserved
loop-index-preserved c = elim c.match-start_value.branch [
  | in-Some+in_ok-push w ↦
      let fits : FitsSigned w64 w.in-Some.value = search rules in
      ap (λ v. v.items) w.values-is
      ∙ w.in_ok-push.ensures.items
      ∙ ap (λ (z : ℤ). c.loop-index.values.items ++ z ∷ []) (to_z-of_z w64 w.in-Some.value fits)
      ∙ ap (λ (l : List ℤ). l ++ w.in-Some.value ∷ []) c.loop-index.invariant
      ∙ take_one_more _ _ c.loop-index.index w.in-Some.value w.in-Some.ensures
  | in_default w ↦ ap (λ v. v.items) w.values-is ∙ c.loop-index.invariant ∙ take_no_more _ _ c.loop-index.index w.in_default.ensures
]
