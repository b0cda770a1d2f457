use Rattle.std.proofs.Common.{◌≡◌, ap, sym, ◌∙◌}
use Rattle.std.specs.Prelude.{Option}
use Rattle.ui_causes.specs.declared.written.Written.{Written}
use Rattle.ui_causes.specs.Origins.{or_later}
use Rattle.ui_causes.proofs.WriteLemmas.{last_taken}
use Rattle.ui_causes.proofs.written.last_set.Goals as goal

pub loop-setting-preserved : goal.loop-setting-preserved
loop-setting-preserved c =
    c.or_later-found.ensures ∙ ap (λ (w : Option Written). or_later w c.set_by.result) c.loop-setting.invariant
    ∙ ap (or_later _) c.set_by.ensures
    ∙ sym (last_taken c.args.variable c.args.settings.now c.loop-setting.setting-index _ c.loop-setting-test.true)
