use Rattle.std.proofs.Common.{◌≡◌, [], map, replicate}
use Rattle.causal_world.proofs.lines.empty_lines.Given as goal

abbrev pub invariant-loop : goal.invariant-loop
invariant-loop l = map (λ line. line.items) l.lines.items ≡ replicate l.counter []
