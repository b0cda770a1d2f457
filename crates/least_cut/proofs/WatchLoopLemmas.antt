-- A loop over the watches: each gets room, or follows the world.
use Rattle.std.proofs.Common.{◌≡◌, ◌≢◌, ℕ, ◌+◌, ◌<◌, ◌≤◌, ◌⊎◌, Bool, true, false, List, [], ◌∷◌, length, get_or, map}
use Rattle.std.proofs.Common.{refl, ap, ◌∙◌, inl, inr, ⊎_elim, arith}
use Rattle.std.specs.Prelude.{◌&&◌, ◌||◌, ◌==◌, nat_le}
use Rattle.std.specs.List.{AllByRecursion}
use Rattle.std.proofs.lemmas.Bool.{cases_eq, cases_lt, eqb-true, leb-true, false≢true}
use Rattle.std.proofs.lemmas.List.{get_or-set_same, get_or-set_other, set_past}
use Rattle.dbg_base.specs.SystemStates.{place_at}
use Rattle.causal_world.specs.Scenes.{Scene}
use Rattle.causal_world.specs.Worlds.{IsSomeWorld}
use Rattle.least_cut.specs.Watches.{WatchRoom, WatchState, conjunct_in, IsWatchOf}
use Rattle.least_cut.specs.Detectors.{DetectorState, HasTruthRoom, AreRoomier, AreWatched, AreWatchesOf, IsSameButRoom, is_past_in}
use Rattle.least_cut.specs.Detectors.{one_more}
use Rattle.least_cut.proofs.ListLoopLemmas.{Became, same_map, all_at, all_from}
use Rattle.least_cut.proofs.Truths.{truths_counted, events_placed}

-- the new watch is of the world, of the same conjunct and with the same room
pub record IsWatchedAgain (w : Scene) (old new : WatchRoom) : Type 0 where
  pub is : IsWatchOf w new.state
  pub conjunct : conjunct_in new.state ≡ conjunct_in old.state
  pub room : new.room ≡ old.room

-- the new watch is the same, with no less room
pub record IsRoomier (old new : WatchRoom) : Type 0 where
  pub state : new.state ≡ old.state
  pub grows : old.room ≤ new.room

-- the same; a watch of this process has room for the truths of so many local states
pub record HasRoomAt (p states : ℕ) (old new : WatchRoom) : Type 0 where
  pub kept : IsRoomier old new
  pub room : new.state.line.process ≡ p → states ≤ new.room

-- the same; the watch has room for the truths of as many events as these places say
pub record HasRoomFor (places : List ℕ) (old new : WatchRoom) : Type 0 where
  pub kept : IsRoomier old new
  pub room : HasTruthRoom places new

-- all watches follow
pub all_watched : {w : Scene} {old new : List WatchRoom} {i : ℕ} → Became (IsWatchedAgain w) old new i → length old ≤ i
    → AreWatched w old new
all_watched {w} {old} {new} {i} is all = record {
  watches = all_from (λ watch. IsWatchOf w watch.state) new
      (λ k x lt. (let r = is.each k x (omega (arith, lt, is.len)) (omega (arith, lt, is.len)) in r.is));
  conjuncts = same_map (λ (watch : WatchRoom). conjunct_in watch.state) new old is.len
      (λ k x lt. (let r = is.each k x (omega arith) lt in r.conjunct));
  rooms = same_map (λ (watch : WatchRoom). watch.room) new old is.len (λ k x lt. (let r = is.each k x (omega arith) lt in r.room));
}

-- no watch loses room
pub roomier : {old new : List WatchRoom} {i : ℕ} → Became IsRoomier old new i → AreRoomier old new
roomier {old} {new} {i} is = record {
  states = same_map (λ (watch : WatchRoom). watch.state) new old is.len
      (λ k x lt. (let r = one k x lt in r.state));
  grows = λ places all. all_from (HasTruthRoom places) new (λ k x lt.
      let there : k < length old = omega (arith, lt, is.len) in
      let had : HasTruthRoom places (get_or old k x) = all_at (HasTruthRoom places) old k x all there in
      let r = one k x there in
      let same : get_or places (get_or new k x).state.line.process 0 ≡ get_or places (get_or old k x).state.line.process 0 =
      ap (λ (s : WatchState). get_or places s.line.process 0) r.state in
      let more = r.grows in
      omega (arith, had, more, same));
}
  where
    one : (k : ℕ) (x : WatchRoom) → k < length old → IsRoomier (get_or old k x) (get_or new k x)
    one k x lt =
        ⊎_elim (λ (less : k < i). is.each k x less lt)
        (λ (past : i ≤ k). record {
          state = ap (λ (watch : WatchRoom). watch.state) (is.others k x past);
          grows = omega (arith, ap (λ (watch : WatchRoom). watch.room) (is.others k x past));
        })
        (cases_lt k i)

-- all have room at the end
pub all_room_at : {p states : ℕ} {old new : List WatchRoom} {i : ℕ} → Became (HasRoomAt p states) old new i → length old ≤ i
    → AllByRecursion (λ watch. watch.state.line.process ≡ p → states ≤ watch.room) new
all_room_at {p} {states} {old} {new} {i} is all =
    all_from (λ watch. watch.state.line.process ≡ p → states ≤ watch.room) new
    (λ k x lt. (let r = is.each k x (omega (arith, lt, is.len)) (omega (arith, lt, is.len)) in r.room))

pub all_room_for : {places : List ℕ} {old new : List WatchRoom} {i : ℕ} → Became (HasRoomFor places) old new i → length old ≤ i
    → AllByRecursion (HasTruthRoom places) new
all_room_for {places} {old} {new} {i} is all =
    all_from (HasTruthRoom places) new
    (λ k x lt. (let r = is.each k x (omega (arith, lt, is.len)) (omega (arith, lt, is.len)) in r.room))

-- a detector with roomier watches
pub same_but_room : (old new : DetectorState) → AreRoomier old.watches new.watches → new.candidates ≡ old.candidates → new.trail ≡ old.trail
    → old.trail_room ≤ new.trail_room → IsSameButRoom old new
same_but_room old new watches candidates trail room = record {
  states = watches.states;
  candidates = candidates;
  trail = trail;
  room = λ places had. (let enough = had.trail in record { truths = watches.grows places had.truths; trail = omega (arith, room, enough) });
}

-- room for one more event of process p
pub one_more_room : (w : Scene) (p : ℕ) (old new : List WatchRoom) → AreRoomier old new
    → AllByRecursion (λ watch. watch.state.line.process ≡ p → place_at w.state p + 2 ≤ watch.room) new
    → AllByRecursion (HasTruthRoom w.state.places) old → AllByRecursion (HasTruthRoom (one_more w p)) new
one_more_room w p old new is more all =
    let places = w.state.places in
    let y : ℕ = place_at w.state p + 1 in
    let had = is.grows places all in
    all_from (HasTruthRoom (one_more w p)) new (λ k x lt.
    let watch = get_or new k x in
    let q : ℕ = watch.state.line.process in
    let enough : HasTruthRoom places watch = all_at (HasTruthRoom places) new k x had lt in
    ⊎_elim
    (λ (same : q ≡ p).
    let room : place_at w.state p + 2 ≤ watch.room =
    all_at (λ (watch : WatchRoom). watch.state.line.process ≡ p → place_at w.state p + 2 ≤ watch.room) new k x more lt same in
    ⊎_elim
    (λ (there : p < length places).
    let now : get_or (one_more w p) q 0 ≡ y =
    ap (λ (r : ℕ). get_or (one_more w p) r 0) same ∙ get_or-set_same places p y 0 there in
    omega (arith, now, room))
    (λ (past : length places ≤ p).
    let now : get_or (one_more w p) q 0 ≡ get_or places q 0 = ap (λ (l : List ℕ). get_or l q 0) (set_past places p y past) in
    omega (arith, now, enough))
    (cases_lt p (length places)))
    (λ (apart : q ≢ p).
    let now : get_or (one_more w p) q 0 ≡ get_or places q 0 = get_or-set_other places p q y 0 apart in
    omega (arith, now, enough))
    (cases_eq q p))

-- both tests of the first, or the test of the others
one_or_more : (a b c : Bool) → ((a && b) || c) ≡ true → ((a ≡ true) × (b ≡ true)) ⊎ (c ≡ true)
one_or_more true true c e = inl (refl, refl)
one_or_more true false c e = inr e
one_or_more false b c e = inr e

-- a process that is past n has fewer than n events in the world of the watches
pub past_within : (v : Scene) (watches : List WatchRoom) (p n : ℕ) → IsSomeWorld v → AreWatchesOf v watches
    → is_past_in (map (λ (watch : WatchRoom). watch.state.line) watches) p n ≡ true → place_at v.state p + 1 ≤ n
past_within v [] p n some are past = absurd (false≢true past)
past_within v (watch ∷ watches) p n some are past =
    ⊎_elim
    (λ (this : ((watch.state.line.process == p) ≡ true) × (nat_le (length watch.state.line.truths) n ≡ true)).
    let count : length watch.state.line.truths ≡ place_at v.state watch.state.line.process + 1 =
    truths_counted v v watch.state are.0 ∙ ap (λ (k : ℕ). k + 1) (events_placed v watch.state.line.process some are.0.here) in
    let few : length watch.state.line.truths ≤ n = leb-true (length watch.state.line.truths) n this.1 in
    let same : place_at v.state watch.state.line.process ≡ place_at v.state p =
    ap (place_at v.state) (eqb-true watch.state.line.process p this.0) in
    omega (arith, count, few, same))
    (λ (other : is_past_in (map (λ (watch : WatchRoom). watch.state.line) watches) p n ≡ true).
    past_within v watches p n some are.1 other)
    (one_or_more (watch.state.line.process == p) (nat_le (length watch.state.line.truths) n)
    (is_past_in (map (λ (watch : WatchRoom). watch.state.line) watches) p n) past)
