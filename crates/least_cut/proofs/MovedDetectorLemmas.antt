-- A detector in a world with more or fewer events than its own world.
use Rattle.std.proofs.Common.{◌≡◌, ℕ, zero, take, suc, ◌+◌, ◌<◌, ◌≤◌, ◌&&◌, ◌==◌, true, not, List, [], ◌∷◌, length, map, get_or, drop, replicate}
use Rattle.std.proofs.Common.{set, refl, sym, ap, ◌∙◌, subst, ⊎_elim, arith}
use Rattle.std.proofs.lemmas.List.{length-replicate}
use Rattle.std.proofs.lemmas.List.Sums.{sum_by-cons}
use Rattle.std.specs.List.{AllByRecursion}
use Rattle.dbg_base.specs.declared.elimination.Elimination.{Elimination}
use Rattle.dbg_base.specs.Eliminations.{reach_from}
use Rattle.dbg_base.specs.Trees.{Program}
use Rattle.dbg_base.specs.LocalStates.{LocalState, no_state}
use Rattle.dbg_base.specs.Predicates.{Conjunct, holds}
use Rattle.dbg_base.specs.SystemStates.{place_at}
use Rattle.event_rows.specs.EventValues.{EventValue}
use Rattle.event_rows.specs.Events.{after_events, past_of}
use Rattle.causal_world.specs.Scenes.{Scene, IsWorldOf, IsEarlier}
use Rattle.causal_world.specs.Worlds.{IsSomeWorld}
use Rattle.causal_world.proofs.WorldCallLemmas.{events_counted, kinds_placed}
use Rattle.causal_world.proofs.SameWorldLemmas.{events_numbered}
use Rattle.least_cut.specs.Watches.{TruthLine, WatchRoom, conjunct_in, truth_line, scan_of, AreAlong, WasWatchOf}
use Rattle.least_cut.specs.Searches.{is_false_in, IsTrailFrom, none_of, steps_up_to}
use Rattle.least_cut.specs.Detectors.{DetectorState, conjuncts_of, lines_of, AreWatchesOf, HasTruthRoom, HasRoomUpTo, IsSearchOf}
use Rattle.cut_core.specs.declared.kind.Kind.{Kind}
use Rattle.cut_core.specs.ConsistentCuts.{places}
use Rattle.least_cut.specs.Detectors.{Watches, IsSameButRoom, IsLimit}
use Rattle.least_cut.proofs.Truths.{truth_there}
use Rattle.least_cut.proofs.WorldHistoryLemmas.{IsHere, same_there}
use Rattle.least_cut.proofs.DetectorResultLemmas.{all_here, lines_same}
use Rattle.least_cut.proofs.Trails.{Agree, trail_moved}
use Rattle.std.proofs.Common.{◌⊎◌, inl, inr}
use Rattle.causal_world.proofs.EarlierWorldLemmas.{earlier_world}
use Rattle.dbg_base.specs.SystemStates.{history_of}
use Rattle.std.proofs.lemmas.List.{get_or_past, length-map, get_or-map, ext_get_or}
use Rattle.least_cut.specs.Watches.{WatchState, IsWatchOf}
use Rattle.least_cut.specs.Detectors.{Begins}

-- The local states that both worlds have.

module _ (P : Program) (v w : Scene) (of : IsWorldOf P v) (other : IsWorldOf P w) (earlier : IsEarlier v w) where
  same_truth : (conjunct : Conjunct) (n : ℕ) → IsHere v conjunct → n ≤ place_at v.state conjunct.process
      → n ≤ place_at w.state conjunct.process
      → get_or (truth_line w conjunct).truths n true ≡ get_or (truth_line v conjunct).truths n true
  same_truth conjunct n here old new =
      let p = conjunct.process in
      let expression = conjunct.expression in
      let inside : p < length P = omega (arith, here, of.state.places) in
      let few : n ≤ length (get_or v.events p []) = omega (arith, old, events_numbered P v p of inside) in
      let same : past_of (get_or w.starts p no_state) (get_or w.events p []) n
      ≡ past_of (get_or v.starts p no_state) (get_or v.events p []) n =
      ap (λ (l : List LocalState). past_of (get_or l p no_state) (get_or w.events p []) n) (sym earlier.starts)
      ∙ ap (λ (l : List EventValue). after_events (get_or v.starts p no_state) l) (earlier.events p n few) in
      truth_there expression (get_or w.starts p no_state) (get_or w.events p []) n true
      (omega (arith, new, events_numbered P w p other inside))
      ∙ ap (holds expression) same
      ∙ sym (truth_there expression (get_or v.starts p no_state) (get_or v.events p []) n true few)

  same_false : (p n : ℕ) (conjuncts : List Conjunct) → AllByRecursion (IsHere v) conjuncts → n ≤ place_at v.state p → n ≤ place_at w.state p
      → is_false_in (scan_of w conjuncts) p n ≡ is_false_in (scan_of v conjuncts) p n
  same_false p n [] here old new = refl
  same_false p n (conjunct ∷ conjuncts) here old new =
      let first : ((conjunct.process == p) && not (get_or (truth_line w conjunct).truths n true))
      ≡ ((conjunct.process == p) && not (get_or (truth_line v conjunct).truths n true)) =
      same_there conjunct.process p (get_or (truth_line w conjunct).truths n true) (get_or (truth_line v conjunct).truths n true)
      (λ same. same_truth conjunct n here.0 (subst (λ (x : ℕ). n ≤ place_at v.state x) (sym same) old)
      (subst (λ (x : ℕ). n ≤ place_at w.state x) (sym same) new)) in
      let rest : is_false_in (scan_of w conjuncts) p n ≡ is_false_in (scan_of v conjuncts) p n = same_false p n conjuncts here.1 old new in
      cc

  agree_earlier : (conjuncts : List Conjunct) → AllByRecursion (IsHere v) conjuncts → Agree v w (scan_of v conjuncts) (scan_of w conjuncts)
  agree_earlier conjuncts here = record {
    processes = of.state.places ∙ sym other.state.places;
    truths = λ p n old new. same_false p n conjuncts here old new;
    rows = λ p n there old new. earlier.clocks p n (
        let few : p < length v.kinds = omega (arith, there, kinds_placed v (P, of), of.state.places, other.state.places) in
        let size = of.clocks.sizes p few in
        let counted = events_counted P v p of in
        omega (arith, old, size, counted));
  }

agree_back : (v w : Scene) (before after : List TruthLine) → Agree v w before after → Agree w v after before
agree_back v w before after agree = record {
  processes = sym agree.processes;
  truths = λ p n new old. sym (agree.truths p n old new);
  rows = λ p n there new old. sym (agree.rows p n (omega (arith, there, agree.processes)) old new);
}

pub agree_along : (P : Program) (v w : Scene) (conjuncts : List Conjunct) → IsWorldOf P v → IsWorldOf P w
    → AllByRecursion (IsHere v) conjuncts → AllByRecursion (IsHere w) conjuncts → AreAlong v w
    → Agree v w (scan_of v conjuncts) (scan_of w conjuncts)
agree_along P v w conjuncts of other here there along =
    ⊎_elim
    (λ (earlier : IsEarlier v w). agree_earlier P v w of other earlier conjuncts here)
    (λ (later : IsEarlier w v). agree_back w v (scan_of w conjuncts) (scan_of v conjuncts)
    (agree_earlier P w v other of later conjuncts there))
    along

-- Room.

rooms_kept : (places : List ℕ) (new old : List WatchRoom)
    → map (λ (watch : WatchRoom). conjunct_in watch.state) new ≡ map (λ (watch : WatchRoom). conjunct_in watch.state) old
    → map (λ (watch : WatchRoom). watch.room) new ≡ map (λ (watch : WatchRoom). watch.room) old
    → AllByRecursion (HasTruthRoom places) old → AllByRecursion (HasTruthRoom places) new
rooms_kept places [] old conjuncts rooms all = tt
rooms_kept places (watch ∷ new) [] conjuncts rooms all = cc
rooms_kept places (watch ∷ new) (was ∷ old) conjuncts rooms all =
    let process : watch.state.line.process ≡ was.state.line.process =
    ap (λ (l : List Conjunct). (get_or l 0 (conjunct_in watch.state)).process) conjuncts in
    let room : watch.room ≡ was.room = ap (λ (l : List ℕ). get_or l 0 watch.room) rooms in
    let enough = all.0 in (
      let own : HasTruthRoom places watch = omega (arith, enough, room, ap (λ (p : ℕ). get_or places p 0) process) in own,
      rooms_kept places new old (ap (λ (l : List Conjunct). drop 1 l) conjuncts) (ap (λ (l : List ℕ). drop 1 l) rooms) all.1,
    )

less_truths : (less places : List ℕ) (watches : List WatchRoom) → ((p : ℕ) → get_or less p 0 ≤ get_or places p 0)
    → AllByRecursion (HasTruthRoom places) watches → AllByRecursion (HasTruthRoom less) watches
less_truths less places [] most all = tt
less_truths less places (watch ∷ watches) most all = (
  let le = most watch.state.line.process in let enough = all.0 in
      let own : HasTruthRoom less watch = omega (arith, le, enough) in own,
  less_truths less places watches most all.1,
)

-- one more process, with its events and one more step
pub steps_next : (counts : List ℕ) (p : ℕ) → steps_up_to (take (p + 1) counts) ≤ steps_up_to (take p counts) + get_or counts p 0 + 1
steps_next counts p = let later : p + 1 ≡ suc p = omega arith in omega (arith, next counts p, ap (λ (n : ℕ). steps_up_to (take n counts)) later)
  where
    next : (counts : List ℕ) (p : ℕ) → steps_up_to (take (suc p) counts) ≤ steps_up_to (take p counts) + get_or counts p 0 + 1
    next [] zero = omega arith
    next [] (suc p) = omega arith
    next (n ∷ counts) zero = omega (arith, sum_by-cons (λ x. x) (n + 1) [])
    next (n ∷ counts) (suc p) =
        omega (
          arith,
          next counts p,
          sum_by-cons (λ x. x) (n + 1) (map (λ (place : ℕ). place + 1) (take (suc p) counts)),
          sum_by-cons (λ x. x) (n + 1) (map (λ (place : ℕ). place + 1) (take p counts)),
        )

-- one more event, of process p
pub steps_one_more : (places : List ℕ) (p : ℕ) → steps_up_to (set places p (get_or places p 0 + 1)) ≤ steps_up_to places + 1
steps_one_more [] p = omega arith
steps_one_more (n ∷ places) zero =
    omega (
      arith,
      sum_by-cons (λ x. x) (n + 1 + 1) (map (λ (place : ℕ). place + 1) places),
      sum_by-cons (λ x. x) (n + 1) (map (λ (place : ℕ). place + 1) places),
    )
steps_one_more (n ∷ places) (suc p) =
    omega (
      arith,
      steps_one_more places p,
      sum_by-cons (λ x. x) (n + 1) (map (λ (place : ℕ). place + 1) (set places p (get_or places p 0 + 1))),
      sum_by-cons (λ x. x) (n + 1) (map (λ (place : ℕ). place + 1) places),
    )

less_steps : (less places : List ℕ) → length less ≡ length places → ((p : ℕ) → get_or less p 0 ≤ get_or places p 0)
    → steps_up_to less ≤ steps_up_to places
less_steps [] places size most = omega arith
less_steps (m ∷ less) [] size most = absurd (omega (arith, size))
less_steps (m ∷ less) (n ∷ places) size most =
    let first : m ≤ n = most 0 in
    let rest : steps_up_to less ≤ steps_up_to places = less_steps less places (omega (arith, size)) (λ p. most (suc p)) in
    omega (
      arith,
      first,
      rest,
      sum_by-cons (λ x. x) (m + 1) (map (λ (place : ℕ). place + 1) less),
      sum_by-cons (λ x. x) (n + 1) (map (λ (place : ℕ). place + 1) places),
    )

-- fewer events need at most the same room
pub room_less : (d : DetectorState) (less places : List ℕ) → length less ≡ length places
    → ((p : ℕ) → get_or less p 0 ≤ get_or places p 0) → HasRoomUpTo d places → HasRoomUpTo d less
room_less d less places size most room = record {
  truths = less_truths less places d.watches most room.truths;
  trail = (let steps = less_steps less places size most in let enough = room.trail in omega (arith, steps, enough));
}

-- The search in the other world.

pub moved_search : (P : Program) (v w : Scene) (old new : DetectorState) → IsWorldOf P v → IsWorldOf P w → AreAlong v w → IsSearchOf v old
    → Watches w old new → ((q : ℕ) → IsLimit v w q (get_or old.candidates q 0)) → HasRoomUpTo old w.state.places → IsSearchOf w new
moved_search P v w old new of other along is watched limit room =
    let conjuncts = conjuncts_of old in
    let here = all_here v old.watches is.watches in
    let there = subst (AllByRecursion (IsHere w)) watched.conjuncts (all_here w new.watches watched.watches) in
    let agree = agree_along P v w conjuncts of other here there along in
    let lines : scan_of w conjuncts ≡ lines_of new =
    ap (scan_of w) (sym watched.conjuncts) ∙ sym (lines_same w new.watches watched.watches) in
    let start : none_of v ≡ none_of w = ap (λ (n : ℕ). replicate n 0) agree.processes in
    let trail : IsTrailFrom w (scan_of w conjuncts) (none_of v) old.trail =
    trail_moved v w (scan_of v conjuncts) (scan_of w conjuncts) agree (none_of v) old.trail
    (subst (λ (l : List TruthLine). IsTrailFrom v l (none_of v) old.trail) (lines_same v old.watches is.watches) is.sound)
    (length-replicate (length v.state.places) 0)
    (λ q. subst (λ (tuple : List ℕ). IsLimit v w q (get_or tuple q 0)) (sym is.reached) (limit q)) in
    record {
      watches = watched.watches;
      sound = subst (λ (steps : List Elimination). IsTrailFrom w (lines_of new) (none_of w) steps) (sym watched.trail)
          (subst (λ (l : List TruthLine). IsTrailFrom w l (none_of w) old.trail) lines
          (subst (λ (tuple : List ℕ). IsTrailFrom w (scan_of w conjuncts) tuple old.trail) start trail));
      reached = ap (reach_from (none_of w)) watched.trail ∙ ap (λ (tuple : List ℕ). reach_from tuple old.trail) (sym start) ∙ is.reached
          ∙ sym watched.candidates;
      room = record {
        truths = rooms_kept w.state.places new.watches old.watches watched.conjuncts watched.rooms room.truths;
        trail = (let enough = room.trail in omega (arith, enough, watched.trail_room));
      };
    }

-- what was known in an earlier world
pub were_watches : (v w : Scene) (watches : List WatchRoom) → IsSomeWorld v → AreAlong v w → AreWatchesOf v watches
    → AllByRecursion (λ (watch : WatchRoom). WasWatchOf watch.state w) watches
were_watches v w [] some along all = tt
were_watches v w (watch ∷ watches) some along all = ((v, some, all.0, along), were_watches v w watches some along all.1)

-- two worlds of one program, where the history of one is a prefix of that of the other
pub along_of : (P : Program) (v w : Scene) → IsWorldOf P v → IsWorldOf P w
    → Begins (history_of v.state) (history_of w.state) ⊎ Begins (history_of w.state) (history_of v.state) → AreAlong v w
along_of P v w of other begins =
    ⊎_elim
    (λ (more : Begins (history_of v.state) (history_of w.state)). inl (earlier_world P v w of other (λ p. sym (more.1 p))))
    (λ (less : Begins (history_of w.state) (history_of v.state)). inr (earlier_world P w v other of (λ p. sym (less.1 p))))
    begins

-- the component of a process that does not exist is within each limit
pub limit_past : (v w : Scene) (tuple : List ℕ) (q : ℕ) → length tuple ≤ q → IsLimit v w q (get_or tuple q 0)
limit_past v w tuple q past =
    let none : get_or tuple q 0 ≡ 0 = get_or_past tuple q 0 past in
    record { most = omega (arith, none); kept = inl (omega (arith, none)) }

-- watches that contracts see as the same
pub states_kept : (w : Scene) (new old : List WatchRoom)
    → map (λ (watch : WatchRoom). watch.state) new ≡ map (λ (watch : WatchRoom). watch.state) old → AreWatchesOf w old → AreWatchesOf w new
states_kept w [] old same all = tt
states_kept w (watch ∷ new) [] same all = cc
states_kept w (watch ∷ new) (was ∷ old) same all =
    let state : was.state ≡ watch.state = ap (λ (l : List WatchState). get_or l 0 watch.state) (sym same) in
    (subst (IsWatchOf w) state all.0, states_kept w new old (ap (λ (l : List WatchState). drop 1 l) same) all.1)

-- the same with a function of each of them
pub seen_kept : {A : Type 0} (f : WatchState → A) (new old : List WatchRoom)
    → map (λ (watch : WatchRoom). watch.state) new ≡ map (λ (watch : WatchRoom). watch.state) old
    → map (λ (watch : WatchRoom). f watch.state) new ≡ map (λ (watch : WatchRoom). f watch.state) old
seen_kept f [] [] same = refl
seen_kept f [] (was ∷ old) same = cc
seen_kept f (watch ∷ new) [] same = cc
seen_kept f (watch ∷ new) (was ∷ old) same =
    let state : watch.state ≡ was.state = ap (λ (l : List WatchState). get_or l 0 watch.state) same in
    let rest = seen_kept f new old (ap (λ (l : List WatchState). drop 1 l) same) in
    λ i. f (state i) ∷ rest i

-- the cut of all events
pub all_events : (w : Scene) → IsSomeWorld w → places w.kinds ≡ w.state.places
all_events w some =
    let size : length (places w.kinds) ≡ length w.kinds = length-map w.kinds (λ (l : List Kind). length l) in
    ext_get_or 0 (places w.kinds) w.state.places (size ∙ kinds_placed w some)
    (λ q here. get_or-map (λ (l : List Kind). length l) w.kinds q [] 0 (omega (arith, here, size)) ∙ events_counted some.0 w q some.1)

-- the search begins
pub search_begins : (w : Scene) (start d : DetectorState) → IsSomeWorld w → AreWatchesOf w start.watches → start.candidates ≡ none_of w
    → start.trail ≡ [] → IsSameButRoom start d → HasRoomUpTo d (places w.kinds) → IsSearchOf w d
search_begins w start d some watches candidates trail same room =
    let none : d.trail ≡ [] = same.trail ∙ trail in
    record {
      watches = states_kept w d.watches start.watches same.states watches;
      sound = subst (λ (steps : List Elimination). IsTrailFrom w (lines_of d) (none_of w) steps) (sym none) tt;
      reached = ap (reach_from (none_of w)) none ∙ sym candidates ∙ sym same.candidates;
      room = subst (HasRoomUpTo d) (all_events w some) room;
    }
