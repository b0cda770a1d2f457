use Rattle.std.proofs.Common.{◌*◌, ◌+◌, ◌≤◌, take}
use Rattle.least_cut.specs.Searches.{steps_up_to}
use Rattle.break_book.proofs.book.following.steps_after.Given as goal

abbrev pub invariant-loop-p : goal.invariant-loop-p
invariant-loop-p l = (steps_up_to (take l.p l.world.state.places) + 1 ≤ l.steps) × (l.steps ≤ l.p * 4294967296 + 1)
