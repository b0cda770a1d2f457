use Rattle.std.proofs.Common.{◌≡◌, take}
use Rattle.local_eval.proofs.env.Env.copy_all.Given as goal

abbrev pub invariant-loop-env : goal.invariant-loop-env
invariant-loop-env l = l.made.items ≡ take l.env-index l.states.items
