use Rattle.std.proofs.Common.{◌≡◌, map, take}
use Rattle.dbg_base.specs.Calls.{order_of}
use Rattle.dbg_base.proofs.call.+plan.Given as goal

abbrev pub invariant-copy_plans-loop-plan : goal.invariant-copy_plans-loop-plan
invariant-copy_plans-loop-plan l = map order_of l.made.items ≡ map order_of (take l.plan-index l.plans.items)
