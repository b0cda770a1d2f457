use Rattle.std.proofs.Common.{◌≡◌, ℕ, ◌+◌, ◌-◌, ◌<◌, pos, [], ◌∷◌, length, get_or, take, sym, ap, ◌∙◌, arith, rules}
use Rattle.dbg_base.specs.LocalStates.{LocalState}
use Rattle.dbg_base.specs.Firing.{with_set}
use Rattle.event_rows.specs.declared.setting.Setting.{Setting}
use Rattle.event_rows.specs.Settings.{with_old_values}
use Rattle.event_rows.proofs.PastStateLemmas.{put_back_more}
use Rattle.event_rows.proofs.setting.put_old.Goals as goal

pub loop-index-preserved : goal.loop-index-preserved
loop-index-preserved c =
    let d : Setting = record { variable = 0; old = pos 0; new = pos 0 } in
    let one : c.loop-index.index ≡ c.loop-index.index - 1 + 1 = omega arith in
    let there : c.loop-index.index - 1 < length c.args.settings.now = omega arith in
    let put : c.put.new.env ≡ with_set c.loop-index.env ((
      (get_or c.args.settings.now (c.loop-index.index - 1) d).variable,
      (get_or c.args.settings.now (c.loop-index.index - 1) d).old,
    ) ∷ []) = (let p = c.put.ensures in search rules) in
    ap (λ (e : LocalState). with_old_values e (take (c.loop-index.index - 1) c.args.settings.now)) put
    ∙ sym (put_back_more c.args.settings.now (c.loop-index.index - 1) d c.loop-index.env there)
    ∙ ap (λ (n : ℕ). with_old_values c.loop-index.env (take n c.args.settings.now)) (sym one) ∙ c.loop-index.invariant
