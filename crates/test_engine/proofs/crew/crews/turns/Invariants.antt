use Rattle.std.proofs.Common.{◌≡◌, length}
use Rattle.std.specs.List.{AllByRecursion}
use Rattle.dbg_command.specs.contracts.kinds.playing.NextCmdCommand.TheImpl.{ghosts}
use Rattle.test_engine.proofs.crew.crews.turns.Given as goal

abbrev pub invariant-loop : goal.invariant-loop
invariant-loop l = record {
  fresh : AllByRecursion ghosts.IsFresh l.orders.items;
  size : length l.orders.items ≡ l.counter;
}
