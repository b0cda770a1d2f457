-- The truths of a conjunct along the events of a process, and what is kept of them as events are made and undone.
use Rattle.std.proofs.Common.{◌≡◌, ℕ, zero, suc, ◌+◌, ◌-◌, ◌<◌, ◌≤◌, ℤ, Bool, true, List, [], ◌∷◌, ◌++◌, length, get_or, set, take}
use Rattle.std.proofs.Common.{refl, sym, ap, ◌∙◌, subst, ⊎_elim, arith, take_all, Option, Some, None, map}
use Rattle.std.specs.Prelude.{◌&&◌, ◌==◌, not, nat_le, slice_get}
use Rattle.std.proofs.lemmas.List.{length-set, length-take-le}
use Rattle.std.proofs.lemmas.Option.{slice_get_cases}
use Rattle.dbg_base.specs.Trees.{Tree}
use Rattle.dbg_base.specs.LocalStates.{LocalState, no_state}
use Rattle.dbg_base.specs.Firing.{set_all}
use Rattle.dbg_base.specs.SystemStates.{place_at}
use Rattle.dbg_base.specs.Predicates.{Conjunct, holds}
use Rattle.event_rows.specs.declared.exchange.Exchange.{Exchange}
use Rattle.event_rows.specs.declared.exchange.Exchange.TheVariants.{Nothing, Sent, Took}
use Rattle.event_rows.specs.Exchanges.{counted_to}
use Rattle.event_rows.specs.EventValues.{EventValue}
use Rattle.event_rows.specs.Events.{after_event, after_events, past_of, advanced}
use Rattle.event_rows.specs.Truths.{truths_along}
use Rattle.event_rows.proofs.PastStateLemmas.{past_more, truths_more}
use Rattle.causal_world.specs.Scenes.{Scene, IsEarlier}
use Rattle.causal_world.specs.Worlds.{IsSomeWorld}
use Rattle.causal_world.proofs.WorldCallLemmas.{kinds_placed}
use Rattle.causal_world.proofs.SameWorldLemmas.{events_numbered}
use Rattle.least_cut.specs.Watches.{TruthLine, WatchState, conjunct_in, IsWatchOf, IsAdvanced, AreAlong}

-- the test that one line is searched with
abbrev pub is_false_at : ℕ → ℕ → TruthLine → Bool
is_false_at p n line = (line.process == p) && not (get_or line.truths n true)

abbrev pub is_past_at : ℕ → ℕ → TruthLine → Bool
is_past_at p n line = (line.process == p) && nat_le (length line.truths) n

-- one more truth than events
pub length_truths : (tree : Tree) (start : LocalState) (events : List EventValue)
    → length (truths_along tree start events) ≡ length events + 1
length_truths tree start [] = refl
length_truths tree start (event ∷ events) =
    let rest : length (truths_along tree (after_event event start) events) ≡ length events + 1 =
    length_truths tree (after_event event start) events in
    omega arith

-- the truths of the first n events
prefix : (tree : Tree) (start : LocalState) (events : List EventValue) (n : ℕ)
    → take (suc n) (truths_along tree start events) ≡ truths_along tree start (take n events)
prefix tree start [] zero = refl
prefix tree start [] (suc n) = refl
prefix tree start (event ∷ events) zero = refl
prefix tree start (event ∷ events) (suc n) =
    ap (λ (l : List Bool). holds tree start ∷ l) (prefix tree (after_event event start) events n)

pub truths_prefix : (tree : Tree) (start : LocalState) (events : List EventValue) (n : ℕ)
    → take (n + 1) (truths_along tree start events) ≡ truths_along tree start (take n events)
truths_prefix tree start events n =
    let same : n + 1 ≡ suc n = omega arith in
    ap (λ (k : ℕ). take k (truths_along tree start events)) same ∙ prefix tree start events n

-- the truth after the n-th event
pub truth_there : (tree : Tree) (start : LocalState) (events : List EventValue) (n : ℕ) (d : Bool) → n ≤ length events
    → get_or (truths_along tree start events) n d ≡ holds tree (past_of start events n)
truth_there tree start [] zero d le = refl
truth_there tree start [] (suc n) d le = absurd (omega arith)
truth_there tree start (event ∷ events) zero d le = refl
truth_there tree start (event ∷ events) (suc n) d le = truth_there tree (after_event event start) events n d (omega arith)

-- The lists of both local states have the same lengths.
pub record AreAlike (a b : LocalState) : Type 0 where
  pub values : length a.values ≡ length b.values
  pub sent : length a.sent ≡ length b.sent
  pub got : length a.got ≡ length b.got

length_set_all : (values : List ℤ) (sets : List (ℕ × ℤ)) → length (set_all values sets) ≡ length values
length_set_all values [] = refl
length_set_all values (s ∷ sets) = length_set_all (set values s.0 s.1) sets ∙ length-set values s.0 s.1

alike_counted : (exchange : Exchange) (state : LocalState) → AreAlike (counted_to exchange state) state
alike_counted Nothing state = record { values = refl; sent = refl; got = refl }
alike_counted (Sent target value count) state = record { values = refl; sent = length-set state.sent target.0 count; got = refl }
alike_counted (Took source message count) state = record { values = refl; sent = refl; got = length-set state.got source.0 count }

pub alike_after : (state : LocalState) (events : List EventValue) → AreAlike (after_events state events) state
alike_after state [] = record { values = refl; sent = refl; got = refl }
alike_after state (event ∷ events) =
    let rest = alike_after (after_event event state) events in
    let one = alike_counted event.exchange
    (record state { values = set_all state.values (map (λ s. (s.variable, s.new)) event.settings) }) in
    record {
      values = rest.values ∙ one.values ∙ length_set_all state.values (map (λ s. (s.variable, s.new)) event.settings);
      sent = rest.sent ∙ one.sent;
      got = rest.got ∙ one.got;
    }

-- a world has as many events of a process as its place says
pub events_placed : (w : Scene) (p : ℕ) → IsSomeWorld w → p < length w.state.places → length (get_or w.events p []) ≡ place_at w.state p
events_placed w p some here = events_numbered some.0 w p some.1 (omega (arith, here, some.1.state.places))

-- two worlds, one of which has the events of the other, have the same processes
pub same_places : (v w : Scene) → IsSomeWorld v → IsSomeWorld w → AreAlong v w → length v.state.places ≡ length w.state.places
same_places v w some other along =
    ⊎_elim
    (λ (e : IsEarlier v w). sym (kinds_placed v some) ∙ sym some.1.clocks.processes ∙ e.processes ∙ other.1.clocks.processes
    ∙ kinds_placed w other)
    (λ (e : IsEarlier w v). sym (kinds_placed v some) ∙ sym some.1.clocks.processes ∙ sym e.processes ∙ other.1.clocks.processes
    ∙ kinds_placed w other) along

abbrev own : Scene → Conjunct → List EventValue
own w conjunct = get_or w.events conjunct.process []

abbrev start : Scene → Conjunct → LocalState
start w conjunct = get_or w.starts conjunct.process no_state

-- the watch is that of the first m events of the world
pub record IsWatchTo (w : Scene) (conjunct : Conjunct) (watch : WatchState) (m : ℕ) : Type 0 where
  pub of : conjunct_in watch ≡ conjunct
  pub within : m ≤ length (own w conjunct)
  pub truths : watch.line.truths ≡ truths_along conjunct.expression (start w conjunct) (take m (own w conjunct))
  pub env : watch.env ≡ past_of (start w conjunct) (own w conjunct) m

module _ (v w : Scene) (watch : WatchState) (is : IsWatchOf v watch) where
  abbrev conjunct : Conjunct
  conjunct = conjunct_in watch

  pub truths_counted : length watch.line.truths ≡ length (own v conjunct) + 1
  truths_counted =
      ap (λ (l : TruthLine). length l.truths) is.line ∙ length_truths conjunct.expression (start v conjunct) (own v conjunct)

  -- both worlds begin with the same local state
  pub same_start : AreAlong v w → start v conjunct ≡ start w conjunct
  same_start along =
      ⊎_elim (λ (e : IsEarlier v w). ap (λ (l : List LocalState). get_or l conjunct.process no_state) e.starts)
      (λ (e : IsEarlier w v). sym (ap (λ (l : List LocalState). get_or l conjunct.process no_state) e.starts)) along

  -- the first n events of both are the same, if both have n events
  same_prefix : AreAlong v w → (n : ℕ) → n ≤ length (own v conjunct) → n ≤ length (own w conjunct)
      → take n (own v conjunct) ≡ take n (own w conjunct)
  same_prefix along n le within =
      ⊎_elim (λ (e : IsEarlier v w). sym (e.events conjunct.process n le)) (λ (e : IsEarlier w v). e.events conjunct.process n within) along

  -- if no known event was undone
  pub kept_to : AreAlong v w → length watch.line.truths ≤ length (own w conjunct) + 1
      → IsWatchTo w conjunct watch (length watch.line.truths - 1)
  kept_to along few =
      let m : ℕ = length (own v conjunct) in
      let size : length watch.line.truths ≡ m + 1 = truths_counted in
      let within : m ≤ length (own w conjunct) = omega arith in
      let same = same_prefix along m (omega arith) within in
      let count : m ≡ length watch.line.truths - 1 = omega arith in
      subst (λ (n : ℕ). IsWatchTo w conjunct watch n) count (record {
        of = refl;
        within = within;
        truths = ap (λ (l : TruthLine). l.truths) is.line
            ∙ ap (λ (s : LocalState). truths_along conjunct.expression s (own v conjunct)) (same_start along)
            ∙ ap (truths_along conjunct.expression (start w conjunct)) (sym (take_all m (own v conjunct) (omega arith)) ∙ same);
        env = is.env ∙ ap (λ (s : LocalState). past_of s (own v conjunct) m) (same_start along) ∙ ap (after_events (start w conjunct)) same;
      })

  -- if known events were undone, and their truths are dropped
  pub cut_to : AreAlong v w → (states : ℕ) (env : LocalState) (new : WatchState) → states ≡ length (own w conjunct) + 1
      → states < length watch.line.truths → env ≡ past_of (start w conjunct) (own w conjunct) (length (own w conjunct))
      → new ≡ record watch { line = record watch.line { truths = take states watch.line.truths }; env = env }
      → IsWatchTo w conjunct new (length new.line.truths - 1)
  cut_to along states env new count more is_env shape =
      let k : ℕ = length (own w conjunct) in
      let size : length watch.line.truths ≡ length (own v conjunct) + 1 = truths_counted in
      let same = same_prefix along k (omega arith) (omega arith) in
      let truths : take states watch.line.truths ≡ truths_along conjunct.expression (start w conjunct) (take k (own w conjunct)) =
      ap (λ (n : ℕ). take n watch.line.truths) count
      ∙ ap (λ (l : TruthLine). take (k + 1) l.truths) is.line
      ∙ truths_prefix conjunct.expression (start v conjunct) (own v conjunct) k
      ∙ ap (λ (s : LocalState). truths_along conjunct.expression s (take k (own v conjunct))) (same_start along)
      ∙ ap (truths_along conjunct.expression (start w conjunct)) same in
      let whole : take k (own w conjunct) ≡ own w conjunct = take_all k (own w conjunct) (omega arith) in
      let known : length (take states watch.line.truths) ≡ k + 1 =
      ap (λ (l : List Bool). length l) truths ∙ length_truths conjunct.expression (start w conjunct) (take k (own w conjunct))
      ∙ ap (λ (l : List EventValue). length l + 1) whole in
      let last : k ≡ length (take states watch.line.truths) - 1 = omega arith in
      subst (λ (s : WatchState). IsWatchTo w conjunct s (length s.line.truths - 1)) (sym shape)
      (subst (λ (n : ℕ). IsWatchTo w conjunct
      (record watch { line = record watch.line { truths = take states watch.line.truths }; env = env }) n) last
      (record { of = refl; within = omega arith; truths = truths; env = is_env }))

module _ (w : Scene) (conjunct : Conjunct) (old : WatchState) (is : IsWatchTo w conjunct old (length old.line.truths - 1)) where
  -- at least one truth is known, and at most as many as there are
  pub truths_within : (0 < length old.line.truths) × (length old.line.truths ≤ length (own w conjunct) + 1)
  truths_within =
      let m : ℕ = length old.line.truths - 1 in
      let size : length old.line.truths ≡ length (take m (own w conjunct)) + 1 =
      ap (λ (l : List Bool). length l) is.truths ∙ length_truths conjunct.expression (start w conjunct) (take m (own w conjunct)) in
      (omega arith, omega (arith, is.within))

  -- one more event
  pub watched_more : (new : WatchState) → length old.line.truths < length (own w conjunct) + 1 → IsAdvanced w old new
      → IsWatchTo w conjunct new (length new.line.truths - 1)
  watched_more new more step =
      let m : ℕ = length old.line.truths - 1 in
      let there = truths_within in
      let process : old.line.process ≡ conjunct.process = ap (λ (c : Conjunct). c.process) is.of in
      ⊎_elim
      (λ (found : (x : EventValue) × (m < length (own w conjunct)) × (slice_get (own w conjunct) m ≡ Some x)
      × (get_or (own w conjunct) m x ≡ x)).
      let event = found.0 in
      let next : new.env ≡ past_of (start w conjunct) (own w conjunct) (m + 1) =
      step.env
      ∙ ap (λ (p : ℕ). advanced (slice_get (get_or w.events p []) m) old.env) process
      ∙ ap (λ (e : Option EventValue). advanced e old.env) found.2
      ∙ ap (after_event event) is.env
      ∙ sym (past_more (start w conjunct) (own w conjunct) m event found.1 found.3) in
      let same : new.expression ≡ conjunct.expression = step.expression ∙ ap (λ (c : Conjunct). c.expression) is.of in
      let truths : new.line.truths ≡ truths_along conjunct.expression (start w conjunct) (take (m + 1) (own w conjunct)) =
      ap (λ (l : TruthLine). l.truths) step.line
      ∙ ap (λ (l : List Bool). l ++ holds new.expression new.env ∷ []) is.truths
      ∙ ap (λ (t : Tree). truths_along conjunct.expression (start w conjunct) (take m (own w conjunct)) ++ holds t new.env ∷ []) same
      ∙ ap (λ (s : LocalState). truths_along conjunct.expression (start w conjunct) (take m (own w conjunct))
      ++ holds conjunct.expression s ∷ []) next
      ∙ sym (truths_more (start w conjunct) (own w conjunct) conjunct.expression m event found.1 found.3) in
      let size : length new.line.truths ≡ length (take (m + 1) (own w conjunct)) + 1 =
      ap (λ (l : List Bool). length l) truths ∙ length_truths conjunct.expression (start w conjunct) (take (m + 1) (own w conjunct)) in
      let count : m + 1 ≡ length new.line.truths - 1 = omega (arith, length-take-le (m + 1) (own w conjunct) (omega arith)) in
      subst (λ (n : ℕ). IsWatchTo w conjunct new n) count (record {
        of = ap (λ (p : ℕ). record { process = p; expression = new.expression }) (ap (λ (l : TruthLine). l.process) step.line ∙ process)
            ∙ ap (λ (t : Tree). record { process = conjunct.process; expression = t }) same;
        within = omega arith;
        truths = truths;
        env = next;
      }))
      (λ (none : (length (own w conjunct) ≤ m) × (slice_get (own w conjunct) m ≡ None)). absurd (omega arith))
      (slice_get_cases (own w conjunct) m).1

  -- all events
  pub watched_all : conjunct.process < length w.state.places → length (own w conjunct) + 1 ≤ length old.line.truths → IsWatchOf w old
  watched_all here all =
      let k : ℕ = length (own w (conjunct_in old)) in
      let own_is = subst (λ (c : Conjunct). IsWatchTo w c old (length old.line.truths - 1)) (sym is.of) is in
      let process : old.line.process ≡ conjunct.process = ap (λ (c : Conjunct). c.process) is.of in
      let many : k + 1 ≤ length old.line.truths =
      subst (λ (c : Conjunct). length (own w c) + 1 ≤ length old.line.truths) (sym is.of) all in
      let count : length old.line.truths - 1 ≡ k = omega (arith, own_is.within) in
      record {
        here = subst (λ (p : ℕ). p < length w.state.places) (sym process) here;
        line = ap (λ (l : List Bool). record { process = old.line.process; truths = l })
            (own_is.truths
            ∙ ap (λ (n : ℕ). truths_along old.expression (start w (conjunct_in old)) (take n (own w (conjunct_in old)))) count
            ∙ ap (truths_along old.expression (start w (conjunct_in old))) (take_all k (own w (conjunct_in old)) (omega arith)));
        env = own_is.env ∙ ap (past_of (start w (conjunct_in old)) (own w (conjunct_in old))) count;
      }
