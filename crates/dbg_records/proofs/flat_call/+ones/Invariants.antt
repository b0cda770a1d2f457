use Rattle.std.proofs.Common.{◌≡◌, ◌++◌, true, take}
use Rattle.dbg_base.specs.Calls.{plans_in}
use Rattle.dbg_records.specs.Flat.{are_ones}
use Rattle.dbg_records.proofs.flat_call.+ones.Given as goal

abbrev pub invariant-add_copies-loop-plan : goal.invariant-add_copies-loop-plan
invariant-add_copies-loop-plan l =
    (plans_in l.made.items ≡ plans_in l.fn.ones.items ++ plans_in (take l.plan-index l.plans.items)) × (are_ones l.made.items ≡ true)
