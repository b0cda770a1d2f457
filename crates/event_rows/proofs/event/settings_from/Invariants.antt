use Rattle.std.proofs.Common.{◌≡◌, take}
use Rattle.event_rows.specs.Settings.{settings_of}
use Rattle.event_rows.proofs.event.settings_from.Given as goal

abbrev pub invariant-loop-variable : goal.invariant-loop-variable
invariant-loop-variable l = l.settings.items ≡ settings_of l.env.values (take l.variable-index l.sets)
