use Rattle.std.proofs.Common.{ap}
use Rattle.dbg_command.specs.Boxes.{is_batch}
use Rattle.dbg_command.proofs.BatchLemmas.{batch_order, batch_givable}
use Rattle.dbg_command.proofs.kinds.batching.BatchCmd.new.Goals as goal

pub invariant_of-result : goal.invariant_of-result
invariant_of-result c = record {
  batch = ap is_batch (batch_order c.args.plans);
  commands = ∣ batch_givable c.args.plans c.requires ∣₁;
}
