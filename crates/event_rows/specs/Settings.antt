-- The variables that an event sets.
use Rattle.std.specs.Prelude.{◌≡◌, ℕ, ℤ, pos, List, [], ◌∷◌, map, slice_index_or, slice_set}
use Rattle.dbg_base.specs.LocalStates.{LocalState}
use Rattle.event_rows.specs.declared.setting.Setting.{Setting}

-- the variables with their new values
abbrev pub new_values : List Setting → List (ℕ × ℤ)
new_values settings = map (λ s. (s.variable, s.new)) settings

-- the values with the old ones restored, from the last setting to the first
abbrev pub put_back : List ℤ → List Setting → List ℤ
put_back values [] = values
put_back values (s ∷ settings) = slice_set (put_back values settings) s.variable s.old

abbrev pub with_old_values : LocalState → List Setting → LocalState
with_old_values state settings = record state { values = put_back state.values settings }

-- the setting of a variable: its old value is among these, or 0 if the variable does not exist
abbrev pub setting_of : List ℤ → ℕ × ℤ → Setting
setting_of values set = record { variable = set.0; old = slice_index_or values set.0 (pos 0); new = set.1 }

-- the settings of several variables
abbrev pub settings_of : List ℤ → List (ℕ × ℤ) → List Setting
settings_of values sets = map (setting_of values) sets

-- the old values are those of the variables
abbrev pub HasOldValues : List ℤ → List Setting → Type 0
HasOldValues values [] = Unit {0}
HasOldValues values (s ∷ settings) = (s.old ≡ slice_index_or values s.variable (pos 0)) × HasOldValues values settings
