use Rattle.std.proofs.Common.{◌≡◌, map}
use Rattle.std.specs.List.{AllByRecursion}
use Rattle.dbg_shell.specs.Crewing.{rounds_of}
use Rattle.dbg_shell.proofs.orders.orders.Given as goal

abbrev pub invariant-loop : goal.invariant-loop
invariant-loop g l = record {
  fresh : AllByRecursion g.C.Command.IsFresh l.orders.items;
  orders : map g.C.Command.order l.orders.items ≡ rounds_of l.worker l.processes l.counter;
}
