use Rattle.std.proofs.Common.{List, sym, subst}
use Rattle.std.proofs.Math.Logic.{∥∥₁_elim}
use Rattle.dbg_base.specs.declared.call.Plan as given
use Rattle.dbg_base.specs.Calls.{AreCommands}
use Rattle.dbg_command.specs.Tables.{IsGivable}
use Rattle.dbg_command.proofs.BatchLemmas.{commands_prop}
use Rattle.dbg_command.proofs.kinds.batching.BatchCmdCommand.apply.Goals as goal

pub after_batch-requires-clause-commands : goal.after_batch-requires-clause-commands
after_batch-requires-clause-commands c =
    subst (λ (items : List given.Plan). AreCommands items) (sym c.as_slice.ensures.value)
    (∥∥₁_elim c.args.self.now.commands (commands_prop c.in-Batch.plans.items)
    (λ (givable : IsGivable c.args.self.now.plan). givable c.in-Batch.plans c.in-Batch.is))
