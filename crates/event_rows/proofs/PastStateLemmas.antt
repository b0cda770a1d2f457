-- The local states of a process after its events, one after the other.
use Rattle.std.proofs.Common.{◌≡◌, ℕ, ◌+◌, ◌<◌, ℤ, Bool, List, [], ◌∷◌, ◌++◌, length, get_or, set, take, refl, sym, ap, ◌∙◌}
use Rattle.std.proofs.lemmas.List.{take_more}
use Rattle.dbg_base.specs.Trees.{Tree}
use Rattle.dbg_base.specs.LocalStates.{LocalState}
use Rattle.event_rows.specs.declared.setting.Setting.{Setting}
use Rattle.event_rows.specs.Settings.{put_back, with_old_values}
use Rattle.event_rows.specs.EventValues.{EventValue}
use Rattle.event_rows.specs.Events.{after_event, after_events, past_of}
use Rattle.dbg_base.specs.Predicates.{holds}
use Rattle.event_rows.specs.Truths.{truths_along}

pub after_one_more : (state : LocalState) (events : List EventValue) (event : EventValue)
    → after_events state (events ++ event ∷ []) ≡ after_event event (after_events state events)
after_one_more state [] event = refl
after_one_more state (e ∷ events) event = after_one_more (after_event e state) events event

one_truth_more : (tree : Tree) (state : LocalState) (events : List EventValue) (event : EventValue)
    → truths_along tree state (events ++ event ∷ [])
    ≡ truths_along tree state events ++ holds tree (after_event event (after_events state events)) ∷ []
one_truth_more tree state [] event = refl
one_truth_more tree state (e ∷ events) event =
    ap (λ (l : List Bool). holds tree state ∷ l) (one_truth_more tree (after_event e state) events event)

module _ (start : LocalState) (events : List EventValue) where
  -- one more event
  pub past_more : (i : ℕ) (event : EventValue) → i < length events → get_or events i event ≡ event
      → past_of start events (i + 1) ≡ after_event event (past_of start events i)
  past_more i event lt here =
      ap (after_events start) (take_more events i event lt ∙ ap (λ (e : EventValue). take i events ++ e ∷ []) here)
      ∙ after_one_more start (take i events) event

  -- one more truth
  pub truths_more : (tree : Tree) (i : ℕ) (event : EventValue) → i < length events → get_or events i event ≡ event
      → truths_along tree start (take (i + 1) events)
      ≡ truths_along tree start (take i events) ++ holds tree (past_of start events (i + 1)) ∷ []
  truths_more tree i event lt here =
      ap (truths_along tree start) (take_more events i event lt ∙ ap (λ (e : EventValue). take i events ++ e ∷ []) here)
      ∙ one_truth_more tree start (take i events) event
      ∙ ap (λ (s : LocalState). truths_along tree start (take i events) ++ holds tree s ∷ []) (sym (past_more i event lt here))

put_back_last : (settings : List Setting) (s : Setting) (values : List ℤ)
    → put_back values (settings ++ s ∷ []) ≡ put_back (set values s.variable s.old) settings
put_back_last [] s values = refl
put_back_last (t ∷ settings) s values = ap (λ (vs : List ℤ). set vs t.variable t.old) (put_back_last settings s values)

-- the last setting of several is undone first
pub put_back_more : (settings : List Setting) (i : ℕ) (d : Setting) (state : LocalState) → i < length settings
    → with_old_values state (take (i + 1) settings)
    ≡ with_old_values (record state { values = set state.values (get_or settings i d).variable (get_or settings i d).old })
    (take i settings)
put_back_more settings i d state lt =
    ap (λ (vs : List ℤ). record state { values = vs })
    (ap (put_back state.values) (take_more settings i d lt) ∙ put_back_last (take i settings) (get_or settings i d) state.values)
