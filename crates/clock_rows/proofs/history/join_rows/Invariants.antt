use Rattle.std.proofs.Common.{◌≡◌, ◌++◌, take, drop}
use Rattle.clock_rows.specs.Clocks.{join}
use Rattle.clock_rows.proofs.history.join_rows.Given as goal

abbrev pub invariant-loop-at : goal.invariant-loop-at
invariant-loop-at l =
    l.joined ≡ join (take l.at l.row) (take l.at l.other) ++ drop l.at l.initial.joined
