use Rattle.std.proofs.Math.Logic.{∥∥₁_elim}
use Rattle.dbg_command.specs.Tables.{IsGivable}
use Rattle.dbg_command.proofs.BatchLemmas.{commands_prop}
use Rattle.shell_serve.proofs.running.fn.play.make.Goals as goal

pub new-requires-in-Batch : goal.new-requires-in-Batch
new-requires-in-Batch g c =
    ∥∥₁_elim c.args.given.givable (commands_prop c.in-Batch.plans.items)
    (λ (givable : IsGivable c.args.given.plan). givable c.in-Batch.plans c.in-Batch.is)
