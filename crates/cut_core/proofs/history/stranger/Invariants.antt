use Rattle.std.proofs.Common.{◌≡◌, ℕ, ◌≤◌, take}
use Rattle.std.specs.List.{count_by}
use Rattle.cut_core.specs.Kinds.{gets_from}
use Rattle.cut_core.proofs.history.stranger.Given as goal

abbrev pub invariant-loop-kind : goal.invariant-loop-kind
invariant-loop-kind l = (i : ℕ) → l.processes ≤ i → count_by (gets_from i) (take l.kind-index l.kinds) ≡ 0
