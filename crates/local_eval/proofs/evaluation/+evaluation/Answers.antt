use Rattle.std.proofs.Common.{rules, ap}
use Rattle.dbg_base.specs.Trees.{tree_of}
use Rattle.local_eval.proofs.evaluation.+evaluation.Goals as goal

pub evaluate-binary-requires : goal.evaluate-binary-requires
evaluate-binary-requires g t c κs within = (
  search rules,
  (
    search rules,
    (c.in-Binary.field-0, tree_of c.in-Binary.field-1.value, tree_of c.in-Binary.field-2.value, ap tree_of c.in-Binary.is),
  ),
)
