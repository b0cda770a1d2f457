use Rattle.std.proofs.Common.{◌≡◌, drop}
use Rattle.dbg_base.specs.Firing.{with_set}
use Rattle.event_rows.specs.Settings.{new_values}
use Rattle.event_rows.proofs.setting.put_new.Given as goal

abbrev pub invariant-loop-setting : goal.invariant-loop-setting
invariant-loop-setting l = with_set l.env (new_values (drop l.setting-index l.settings)) ≡ with_set l.fn.env (new_values l.settings)
