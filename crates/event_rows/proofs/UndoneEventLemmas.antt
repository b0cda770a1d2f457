-- An event that fits is made and undone: the local state is as it was.
use Rattle.std.proofs.Common.{◌≡◌, ℕ, ◌+◌, ◌-◌, ℤ, pos, List, [], ◌∷◌, get_or, set, refl, sym, ap, ◌∙◌, arith, inl, inr}
use Rattle.std.proofs.lemmas.Bool.{cases_eq}
use Rattle.std.proofs.lemmas.List.{set-set, set_comm, set-get_or}
use Rattle.dbg_base.specs.LocalStates.{LocalState}
use Rattle.dbg_base.specs.Firing.{set_all, with_set}
use Rattle.event_rows.specs.declared.setting.Setting.{Setting}
use Rattle.event_rows.specs.declared.exchange.Exchange.{Exchange}
use Rattle.event_rows.specs.declared.exchange.Exchange.TheVariants.{Nothing, Sent, Took}
use Rattle.event_rows.specs.Settings.{new_values, put_back, with_old_values, settings_of, HasOldValues}
use Rattle.event_rows.specs.Exchanges.{counted_to, earlier, IsNextCount}
use Rattle.event_rows.specs.EventValues.{EventValue}
use Rattle.event_rows.specs.Events.{after_event, before_event, Fits}

-- lists that agree except at v still do so after one more write
agree_after : (xs ys : List ℤ) (v u : ℕ) (b c : ℤ) → set xs v b ≡ set ys v b → set (set xs u c) v b ≡ set (set ys u c) v b
agree_after xs ys v u b c same = elim (cases_eq u v) [
  | inl e ↦
      let over : (zs : List ℤ) → set (set zs u c) v b ≡ set zs v b =
      λ (zs : List ℤ). ap (λ (n : ℕ). set (set zs n c) v b) e ∙ set-set zs v c b in
      over xs ∙ same ∙ sym (over ys)
  | inr ne ↦ set_comm xs u v c b ne ∙ ap (λ (zs : List ℤ). set zs u c) same ∙ sym (set_comm ys u v c b ne)
]

-- the old value of a variable is lost if the variable is written at the end
overwritten : (settings : List Setting) (values : List ℤ) (v : ℕ) (a b : ℤ)
    → set (put_back (set values v a) settings) v b ≡ set (put_back values settings) v b
overwritten [] values v a b = set-set values v a b
overwritten (s ∷ settings) values v a b =
    agree_after (put_back (set values v a) settings) (put_back values settings) v s.variable b s.old (overwritten settings values v a b)

-- the new values are lost when the old ones are restored
new_lost : (settings : List Setting) (values : List ℤ)
    → put_back (set_all values (new_values settings)) settings ≡ put_back values settings
new_lost [] values = refl
new_lost (s ∷ settings) values =
    ap (λ (vs : List ℤ). set vs s.variable s.old) (new_lost settings (set values s.variable s.new))
    ∙ overwritten settings values s.variable s.new s.old

put_back_same : (settings : List Setting) (values : List ℤ) → HasOldValues values settings → put_back values settings ≡ values
put_back_same [] values h = refl
put_back_same (s ∷ settings) values h =
    ap (λ (vs : List ℤ). set vs s.variable s.old) (put_back_same settings values h.1)
    ∙ ap (set values s.variable) h.0 ∙ set-get_or values s.variable (pos 0)

values_back : (settings : List Setting) (values : List ℤ) → HasOldValues values settings
    → put_back (set_all values (new_values settings)) settings ≡ values
values_back settings values h = new_lost settings values ∙ put_back_same settings values h

count_back : (counts : List ℕ) (p count : ℕ) → count ≡ get_or counts p 0 + 1 → set (set counts p count) p (count - 1) ≡ counts
count_back counts p count e =
    let less : count - 1 ≡ get_or counts p 0 = omega arith in
    set-set counts p count (count - 1) ∙ ap (set counts p) less ∙ set-get_or counts p 0

undone_by : (exchange : Exchange) (settings : List Setting) (state : LocalState) → HasOldValues state.values settings
    → IsNextCount exchange state
    → counted_to (earlier exchange) (with_old_values (counted_to exchange (with_set state (new_values settings))) settings) ≡ state
undone_by Nothing settings state old next =
    ap (λ (vs : List ℤ). record state { values = vs }) (values_back settings state.values old)
undone_by (Sent target value count) settings state old next =
    ap (λ (vs : List ℤ). record { values = vs; sent = set (set state.sent target.0 count) target.0 (count - 1); got = state.got })
    (values_back settings state.values old)
    ∙ ap (λ (counts : List ℕ). record state { sent = counts }) (count_back state.sent target.0 count next)
undone_by (Took source message count) settings state old next =
    ap (λ (vs : List ℤ). record { values = vs; sent = state.sent; got = set (set state.got source.0 count) source.0 (count - 1) })
    (values_back settings state.values old)
    ∙ ap (λ (counts : List ℕ). record state { got = counts }) (count_back state.got source.0 count next)

pub undone : (event : EventValue) (state : LocalState) → Fits event state → before_event event (after_event event state) ≡ state
undone event state fits = undone_by event.exchange event.settings state fits.old_values fits.next_count

-- the settings of `Event::of` have the old values
pub has_old_values : (values : List ℤ) (sets : List (ℕ × ℤ)) → HasOldValues values (settings_of values sets)
has_old_values values [] = tt
has_old_values values (s ∷ sets) = (refl, has_old_values values sets)

-- the settings of `Event::of` have the new values
pub new_values_of : (values : List ℤ) (sets : List (ℕ × ℤ)) → new_values (settings_of values sets) ≡ sets
new_values_of values [] = refl
new_values_of values (s ∷ sets) = ap (λ (rest : List (ℕ × ℤ)). s ∷ rest) (new_values_of values sets)
