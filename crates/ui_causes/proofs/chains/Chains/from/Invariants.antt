use Rattle.std.specs.List.{All}
use Rattle.ui_causes.specs.CausalPasts.{IsOnTheWay}
use Rattle.ui_causes.proofs.chains.Chains.from.Given as goal

abbrev pub invariant-loop : goal.invariant-loop
invariant-loop l = All (IsOnTheWay l.world l.event) l.hops.items
