use Rattle.std.proofs.Common.{◌≡◌, ◌-◌, length}
use Rattle.least_cut.specs.Watches.{conjunct_in}
use Rattle.least_cut.proofs.Truths.{IsWatchTo}
use Rattle.least_cut.proofs.watch.Watch.follow.Given as goal

abbrev pub invariant-loop-self : goal.invariant-loop-self
invariant-loop-self l = record {
  watched : IsWatchTo l.world (conjunct_in l.fn.self.state) l.self.state (length l.self.state.line.truths - 1);
  room : l.self.room ≡ l.fn.self.room;
}

abbrev pub decreases-loop-self : goal.decreases-loop-self
decreases-loop-self l = l.states - length l.self.state.line.truths
