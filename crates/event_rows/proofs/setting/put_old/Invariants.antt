use Rattle.std.proofs.Common.{◌≡◌, take}
use Rattle.event_rows.specs.Settings.{with_old_values}
use Rattle.event_rows.proofs.setting.put_old.Given as goal

abbrev pub invariant-loop-index : goal.invariant-loop-index
invariant-loop-index l = with_old_values l.env (take l.index l.settings) ≡ with_old_values l.fn.env l.settings
