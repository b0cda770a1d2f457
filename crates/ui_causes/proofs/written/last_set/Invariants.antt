use Rattle.std.proofs.Common.{◌≡◌, take}
use Rattle.ui_causes.specs.Origins.{last_set}
use Rattle.ui_causes.proofs.written.last_set.Given as goal

abbrev pub invariant-loop-setting : goal.invariant-loop-setting
invariant-loop-setting l = l.found ≡ last_set l.variable (take l.setting-index l.settings)
