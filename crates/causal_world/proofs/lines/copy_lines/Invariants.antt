use Rattle.std.proofs.Common.{◌≡◌, map, take}
use Rattle.causal_world.proofs.lines.copy_lines.Given as goal

abbrev pub invariant-loop-line : goal.invariant-loop-line
invariant-loop-line l = map (λ line. line.items) l.made.items ≡ map (λ line. line.items) (take l.line-index l.lines.items)
