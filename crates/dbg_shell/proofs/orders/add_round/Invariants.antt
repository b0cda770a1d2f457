use Rattle.std.proofs.Common.{◌≡◌, ◌++◌, map}
use Rattle.std.specs.List.{AllByRecursion}
use Rattle.dbg_shell.specs.Crewing.{round_of}
use Rattle.dbg_shell.proofs.orders.add_round.Given as goal

abbrev pub invariant-loop-p : goal.invariant-loop-p
invariant-loop-p g l = record {
  fresh : AllByRecursion g.C.Command.IsFresh l.orders.items;
  orders : map g.C.Command.order l.orders.items ≡ map g.C.Command.order l.fn.orders.items ++ round_of l.worker l.p;
}
