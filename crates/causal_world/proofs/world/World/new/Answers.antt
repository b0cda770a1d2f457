use Rattle.proc_tree.specs.Programs.{program_of}
use Rattle.causal_world.proofs.WorldOfLemmas.{opened}
use Rattle.causal_world.proofs.world.World.new.Goals as goal
use Rattle.std.proofs.Common.{rules}

pub returns-clause-of : goal.returns-clause-of
returns-clause-of c = opened (program_of c.args.program.now) _ (search rules) (search rules) (search rules) (search rules)
    (search rules) (search rules)

pub invariant_of-result : goal.invariant_of-result
invariant_of-result c = (
  program_of c.args.program.now,
  opened (program_of c.args.program.now) _ (search rules) (search rules) (search rules) (search rules)
      (search rules) (search rules),
)
