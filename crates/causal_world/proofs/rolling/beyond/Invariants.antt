use Rattle.std.proofs.Common.{◌+◌, ◌*◌, ◌≤◌, sum, take}
use Rattle.cut_core.specs.ConsistentCuts.{places}
use Rattle.causal_world.proofs.rolling.beyond.Given as goal

abbrev pub invariant-loop-p : goal.invariant-loop-p
invariant-loop-p l =
    (sum (take l.p (places l.tally.kinds)) ≤ l.more + sum (take l.p l.cut)) × (l.more ≤ l.p * 4294967295)
