use Rattle.std.proofs.Common.{◌≡◌, ℕ, ◌<◌, ◌≤◌, length, get_or, take}
use Rattle.std.specs.List.{count_by}
use Rattle.causal_world.specs.Room.{is_of}
use Rattle.causal_world.proofs.making.counts_of.Given as goal

abbrev pub invariant-loop-one : goal.invariant-loop-one
invariant-loop-one l = record {
  len : length l.counts.items ≡ l.processes;
  each : (p : ℕ) → p < l.processes → get_or l.counts.items p 0 ≡ count_by (is_of p) (take l.one-index l.taken);
  few : (p : ℕ) → get_or l.counts.items p 0 ≤ l.one-index;
}
