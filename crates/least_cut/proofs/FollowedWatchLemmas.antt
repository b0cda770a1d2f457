-- The truths of a conjunct in one world, as a loop reads the events of another.
use Rattle.std.proofs.Common.{◌≡◌, ℕ, ◌+◌, ◌-◌, ◌<◌, ◌≤◌, [], length, get_or, take, refl, sym, ap, ◌∙◌, subst, arith}
use Rattle.dbg_base.specs.LocalStates.{LocalState, no_state}
use Rattle.dbg_base.specs.SystemStates.{place_at}
use Rattle.event_rows.specs.Events.{past_of}
use Rattle.causal_world.specs.Scenes.{Scene}
use Rattle.causal_world.specs.Worlds.{IsSomeWorld}
use Rattle.least_cut.specs.Watches.{WatchState, conjunct_in, IsWatchOf, IsAdvanced, AreAlong, WasWatchOf}
use Rattle.least_cut.proofs.Truths.{AreAlike, IsWatchTo, alike_after, events_placed, same_places, same_start, kept_to, cut_to}
use Rattle.least_cut.proofs.Truths.{truths_counted}
use Rattle.least_cut.proofs.Truths.{watched_more, watched_all}

module _ (w : Scene) (old : WatchState) (some : IsSomeWorld w) (was : WasWatchOf old w) (p place : ℕ) (same : p ≡ old.line.process)
    (placed : place ≡ place_at w.state p) where
  here : old.line.process < length w.state.places
  here = omega (arith, was.2.here, same_places was.0 w was.1 some was.3)

  counted : length (get_or w.events old.line.process []) ≡ place
  counted = events_placed w old.line.process some here ∙ ap (place_at w.state) (sym same) ∙ sym placed

  at_present : (env : LocalState)
      → env ≡ past_of (get_or w.starts p no_state) (get_or w.events p []) (length (get_or w.events p []))
      → env ≡ past_of (get_or w.starts old.line.process no_state) (get_or w.events old.line.process [])
      (length (get_or w.events old.line.process []))
  at_present env is =
      subst (λ (q : ℕ). env ≡ past_of (get_or w.starts q no_state) (get_or w.events q []) (length (get_or w.events q []))) same is

  -- its lists are as long as those of the present local state
  pub alike_now : (env : LocalState)
      → env ≡ past_of (get_or w.starts p no_state) (get_or w.events p []) (length (get_or w.events p [])) → AreAlike old.env env
  alike_now env is =
      let q : ℕ = old.line.process in
      let v = was.0 in
      let before = alike_after (get_or v.starts q no_state) (take (length (get_or v.events q [])) (get_or v.events q [])) in
      let after = alike_after (get_or w.starts q no_state) (take (length (get_or w.events q [])) (get_or w.events q [])) in
      let start : get_or v.starts q no_state ≡ get_or w.starts q no_state = same_start v w old was.2 was.3 in
      let now = at_present env is in
      record {
        values = ap (λ (s : LocalState). length s.values) was.2.env ∙ before.values ∙ ap (λ (s : LocalState). length s.values) start
            ∙ sym after.values ∙ sym (ap (λ (s : LocalState). length s.values) now);
        sent = ap (λ (s : LocalState). length s.sent) was.2.env ∙ before.sent ∙ ap (λ (s : LocalState). length s.sent) start
            ∙ sym after.sent ∙ sym (ap (λ (s : LocalState). length s.sent) now);
        got = ap (λ (s : LocalState). length s.got) was.2.env ∙ before.got ∙ ap (λ (s : LocalState). length s.got) start
            ∙ sym after.got ∙ sym (ap (λ (s : LocalState). length s.got) now);
      }

  -- if no known event was undone
  pub kept : (new : WatchState) → new ≡ old → length old.line.truths ≤ place + 1
      → IsWatchTo w (conjunct_in old) new (length new.line.truths - 1)
  kept new is few =
      subst (λ (s : WatchState). IsWatchTo w (conjunct_in old) s (length s.line.truths - 1)) (sym is)
      (kept_to was.0 w old was.2 was.3 (omega (arith, few, counted)))

  -- if known events were undone
  pub cut : (env : LocalState) (new : WatchState)
      → env ≡ past_of (get_or w.starts p no_state) (get_or w.events p []) (length (get_or w.events p []))
      → place + 1 < length old.line.truths
      → new ≡ record old { line = record old.line { truths = take (place + 1) old.line.truths }; env = env }
      → IsWatchTo w (conjunct_in old) new (length new.line.truths - 1)
  cut env new is more shape =
      cut_to was.0 w old was.2 was.3 (place + 1) env new (omega (arith, counted)) more (at_present env is) shape

  module _ (now : WatchState) (is : IsWatchTo w (conjunct_in old) now (length now.line.truths - 1)) where
    -- one more event
    pub goes_on : (new : WatchState) → length now.line.truths < place + 1 → IsAdvanced w now new
        → IsWatchTo w (conjunct_in old) new (length new.line.truths - 1)
    goes_on new less step = watched_more w (conjunct_in old) now is new (omega (arith, less, counted)) step

    -- all events
    pub ends : place + 1 ≤ length now.line.truths → IsWatchOf w now
    ends all = watched_all w (conjunct_in old) now is here (omega (arith, all, counted))

-- a watch of one world is a watch of the other if its process has as many events in it
pub still_watch : (v w : Scene) (watch : WatchState) → IsSomeWorld v → IsSomeWorld w → AreAlong v w → IsWatchOf v watch
    → place_at v.state watch.line.process ≡ place_at w.state watch.line.process → IsWatchOf w watch
still_watch v w watch some other along is same =
    let p : ℕ = watch.line.process in
    let was : WasWatchOf watch w = (v, some, is, along) in
    let known : length watch.line.truths ≡ place_at w.state p + 1 =
    truths_counted v v watch is ∙ ap (λ (n : ℕ). n + 1) (events_placed v p some is.here ∙ same) in
    ends w watch other was p (place_at w.state p) refl refl watch
    (kept w watch other was p (place_at w.state p) refl refl watch refl (omega (arith, known))) (omega (arith, known))
