use Rattle.std.proofs.Common.{◌≡◌, ◌≤◌, take}
use Rattle.std.specs.List.{count_by}
use Rattle.cut_core.specs.Kinds.{is_like}
use Rattle.cut_core.proofs.history.count.Given as goal

abbrev pub invariant-loop-kind : goal.invariant-loop-kind
invariant-loop-kind l = (l.count ≡ count_by (is_like l.wanted) (take l.kind-index l.kinds)) × (l.count ≤ l.kind-index)
