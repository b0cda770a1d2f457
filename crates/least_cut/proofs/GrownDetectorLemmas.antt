-- A detector as a process makes an event or undoes its last one.
use Rattle.std.proofs.Common.{◌≡◌, ◌≢◌, ℕ, ◌-◌, ◌<◌, ◌≤◌, ◌⊎◌, min, List, [], ◌∷◌, length, map, get_or, take, sym, ap, ◌∙◌}
use Rattle.std.proofs.Common.{subst, ⊎_elim, inl, inr, arith}
use Rattle.std.proofs.lemmas.Bool.{cases_eq, cases_lt}
use Rattle.std.proofs.lemmas.List.{get_or-set_same, get_or-set_other, take_all, length-take-le, length-set, get_or_past}
use Rattle.std.specs.List.{AllByRecursion}
use Rattle.dbg_base.specs.Trees.{Program}
use Rattle.dbg_base.specs.Histories.{History}
use Rattle.dbg_base.specs.Frontiers.{choices_at}
use Rattle.dbg_base.specs.Reversal.{without_last, without_back}
use Rattle.dbg_base.specs.SystemStates.{place_at, history_of}
use Rattle.causal_world.specs.Scenes.{Scene, IsWorldOf, IsEarlier}
use Rattle.causal_world.proofs.EarlierWorldLemmas.{earlier_world}
use Rattle.least_cut.specs.Watches.{TruthLine, WatchRoom, scan_of, IsWatchOf, AreAlong}
use Rattle.least_cut.specs.Searches.{IsSettledAt}
use Rattle.least_cut.specs.Detectors.{DetectorState, conjuncts_of, lines_of, AreWatchesOf, HasRoomUpTo, IsSearchOf}
use Rattle.least_cut.specs.Detectors.{IsDetectorOf, GoesOn, DropsTo, Watches, IsLimit}
use Rattle.least_cut.specs.Detectors.{WasOf}
use Rattle.least_cut.proofs.WorldHistoryLemmas.{IsHere, choices_placed}
use Rattle.least_cut.proofs.DetectorResultLemmas.{all_here, lines_same}
use Rattle.least_cut.proofs.FollowedWatchLemmas.{still_watch}
use Rattle.least_cut.proofs.Trails.{settled_moved, still_settled}
use Rattle.least_cut.proofs.SearchStepLemmas.{candidates_within}
use Rattle.least_cut.proofs.MovedDetectorLemmas.{agree_along, moved_search, room_less}

-- A history without the last choice of process p.

module _ (H : History) (p : ℕ) where
  own_line : get_or (without_last H p) p [] ≡ without_back (get_or H p [])
  own_line =
      ⊎_elim
      (λ (here : p < length H). get_or-set_same H p (without_back (get_or H p [])) [] here)
      (λ (past : length H ≤ p).
      let none : get_or H p [] ≡ [] = get_or_past H p [] past in
      get_or_past (without_last H p) p [] (omega (arith, past, length-set H p (without_back (get_or H p []))))
      ∙ ap (λ (l : List ℕ). without_back l) (sym none))
      (cases_lt p (length H))

  other_line : (q : ℕ) → q ≢ p → get_or (without_last H p) q [] ≡ get_or H q []
  other_line q apart = get_or-set_other H p q (without_back (get_or H p [])) [] apart

  pub own_count : choices_at (without_last H p) p ≡ choices_at H p - 1
  own_count =
      ap (λ (l : List ℕ). length l) own_line ∙ length-take-le (length (get_or H p []) - 1) (get_or H p []) (omega arith)

  pub other_count : (q : ℕ) → q ≢ p → choices_at (without_last H p) q ≡ choices_at H q
  other_count q apart = ap (λ (l : List ℕ). length l) (other_line q apart)

  pub begins : (q : ℕ) → get_or (without_last H p) q [] ≡ take (length (get_or (without_last H p) q [])) (get_or H q [])
  begins q =
      ⊎_elim
      (λ (same : q ≡ p).
      subst (λ (x : ℕ). get_or (without_last H p) x [] ≡ take (length (get_or (without_last H p) x [])) (get_or H x [])) (sym same)
      (own_line ∙ ap (λ (n : ℕ). take n (get_or H p [])) (sym own_count)))
      (λ (apart : q ≢ p).
      let line = other_line q apart in
      line ∙ sym (take_all (length (get_or (without_last H p) q [])) (get_or H q [])
      (let e = ap (λ (l : List ℕ). length l) line in omega (arith, e))))
      (cases_eq q p)

-- Two worlds of one program, of which the second has one more event, of process p.

module _ (P : Program) (less more : Scene) (p : ℕ) (of : IsWorldOf P less) (other : IsWorldOf P more)
    (one : history_of less.state ≡ without_last (history_of more.state) p) where
  pub one_earlier : IsEarlier less more
  one_earlier =
      earlier_world P less more of other
      (λ q. subst (λ (H : History). get_or H q [] ≡ take (length (get_or H q [])) (get_or (history_of more.state) q [])) (sym one)
      (begins (history_of more.state) p q))

  pub same_place : (q : ℕ) → q ≢ p → place_at less.state q ≡ place_at more.state q
  same_place q apart =
      sym (choices_placed P less of q) ∙ ap (λ (H : History). choices_at H q) one ∙ other_count (history_of more.state) p q apart
      ∙ choices_placed P more other q

  pub own_place : place_at less.state p ≡ place_at more.state p - 1
  own_place =
      sym (choices_placed P less of p) ∙ ap (λ (H : History). choices_at H p) one ∙ own_count (history_of more.state) p
      ∙ ap (λ (n : ℕ). n - 1) (choices_placed P more other p)

  pub most_places : (q : ℕ) → place_at less.state q ≤ place_at more.state q
  most_places q =
      ⊎_elim
      (λ (same : q ≡ p). subst (λ (x : ℕ). place_at less.state x ≤ place_at more.state x) (sym same) (omega (arith, own_place)))
      (λ (apart : q ≢ p). omega (arith, same_place q apart))
      (cases_eq q p)

  pub same_sizes : length less.state.places ≡ length more.state.places
  same_sizes = of.state.places ∙ sym other.state.places

  -- a watch of another process is also that of the world with one more event
  pub others_watched : (watches : List WatchRoom) → AreWatchesOf less watches
      → AllByRecursion (λ watch. watch.state.line.process ≢ p → IsWatchOf more watch.state) watches
  others_watched [] all = tt
  others_watched (watch ∷ watches) all = (
    λ apart.
        still_watch less more watch.state (P, of) (P, other) (inl one_earlier) all.0 (same_place watch.state.line.process apart),
    others_watched watches all.1,
  )

-- a smaller component is within the same limit
pub limit_less : (v w : Scene) (p m n : ℕ) → m ≤ n → IsLimit v w p n → IsLimit v w p m
limit_less v w p m n le limit = record {
  most = (let most = limit.most in omega (arith, most, le));
  kept =
      ⊎_elim
      (λ (few : n ≤ place_at w.state p). inl (omega (arith, few, le)))
      (λ (kept : place_at v.state p ≤ place_at w.state p). inr kept)
      limit.kept;
}

-- A process has made an event.

module _ (P : Program) (v w : Scene) (p : ℕ) (d new : DetectorState) (was : WasOf P v d w) (some : 0 < place_at w.state p)
    (one : history_of v.state ≡ without_last (history_of w.state) p) (watched : Watches w d new) (room : HasRoomUpTo d w.state.places) where
  is : IsSearchOf v d
  is = was.detector.search

  along : AreAlong v w
  along = inl (one_earlier P v w p was.of was.now one)

  fits : (q : ℕ) → IsLimit v w q (get_or d.candidates q 0)
  fits q =
      let most = candidates_within v d (P, was.of) is q in
      let places = most_places P v w p was.of was.now one q in
      record { most = omega (arith, most, places); kept = inr places }

  pub grown_search : IsSearchOf w new
  grown_search = moved_search P v w d new was.of was.now along is watched fits room

  -- no other process has anything left to rule out, nor has the process itself, unless its candidate is its last event
  pub grown_settled : (q : ℕ) → q < length w.state.places → (q ≢ p) ⊎ (get_or new.candidates p 0 ≢ place_at w.state p)
      → IsSettledAt w (lines_of new) new.candidates q
  grown_settled q here apart =
      let conjuncts = conjuncts_of d in
      let inside = all_here v d.watches is.watches in
      let there = subst (AllByRecursion (IsHere w)) watched.conjuncts (all_here w new.watches watched.watches) in
      let agree = agree_along P v w conjuncts was.of was.now inside there along in
      let lines : scan_of w conjuncts ≡ lines_of new =
      ap (scan_of w) (sym watched.conjuncts) ∙ sym (lines_same w new.watches watched.watches) in
      let old : IsSettledAt v (scan_of v conjuncts) d.candidates q =
      subst (λ (l : List TruthLine). IsSettledAt v l d.candidates q) (lines_same v d.watches is.watches)
      (was.detector.settled q (omega (arith, here, same_sizes P v w p was.of was.now one))) in
      let own = own_place P v w p was.of was.now one in
      let few = candidates_within v d (P, was.of) is p in
      let same : (get_or d.candidates q 0 ≤ place_at v.state q) ⊎ (place_at v.state q ≡ place_at w.state q) =
      ⊎_elim
      (λ (other : q ≢ p). inr (same_place P v w p was.of was.now one q other))
      (λ (beyond : get_or new.candidates p 0 ≢ place_at w.state p).
      ⊎_elim
      (λ (mine : q ≡ p).
      inl (subst (λ (x : ℕ). get_or d.candidates x 0 ≤ place_at v.state x) (sym mine)
      (let e = ap (λ (l : List ℕ). get_or l p 0) watched.candidates in
      let differs : get_or d.candidates p 0 ≢ place_at w.state p = λ x. beyond (e ∙ x) in
      omega (arith, own, few, differs, some))))
      (λ (other : q ≢ p). inr (same_place P v w p was.of was.now one q other))
      (cases_eq q p))
      apart in
      let most = most_places P v w p was.of was.now one q in
      subst (λ (l : List TruthLine). IsSettledAt w l new.candidates q) lines
      (subst (λ (tuple : List ℕ). IsSettledAt w (scan_of w conjuncts) tuple q) (sym watched.candidates)
      (settled_moved v w (scan_of v conjuncts) (scan_of w conjuncts) agree d.candidates q old here
      (⊎_elim
      (λ (le : get_or d.candidates q 0 ≤ place_at v.state q).
      let e : min (get_or d.candidates q 0) (place_at v.state q) ≡ min (get_or d.candidates q 0) (place_at w.state q) =
      omega (arith, le, most) in e)
      (λ (e : place_at v.state q ≡ place_at w.state q). ap (λ (n : ℕ). min (get_or d.candidates q 0) n) e)
      same)
      (λ le.
      ⊎_elim
      (λ (few : get_or d.candidates q 0 ≤ place_at v.state q). few)
      (λ (e : place_at v.state q ≡ place_at w.state q). omega (arith, e, le))
      same)))

  -- nor has the process itself, if it was settled and no other candidate moved
  pub settled_alone : (after : DetectorState) → GoesOn w new after → IsSettledAt w (lines_of after) after.candidates p
      → ((r : ℕ) → r ≢ p → get_or after.candidates r 0 ≡ get_or new.candidates r 0) → IsDetectorOf w after
  settled_alone after on own others = record {
    search = on.search;
    settled = λ q here.
        ⊎_elim
        (λ (same : q ≡ p). subst (λ (x : ℕ). IsSettledAt w (lines_of after) after.candidates x) (sym same) own)
        (λ (apart : q ≢ p).
        subst (λ (l : List TruthLine). IsSettledAt w l after.candidates q)
        (ap (λ (l : List WatchRoom). map (λ (watch : WatchRoom). watch.state.line) l) (sym on.watches))
        (still_settled w (lines_of new) new.candidates after.candidates q (grown_settled q here (inl apart)) on.most (others q apart)))
        (cases_eq q p);
  }

-- A process has lost its last event.

module _ (P : Program) (v w : Scene) (p limit : ℕ) (d dropped new : DetectorState) (was : WasOf P v d w)
    (one : history_of w.state ≡ without_last (history_of v.state) p) (limits : IsLimit v w p limit)
    (drops : DropsTo p limit d dropped) where
  left : IsSearchOf v dropped
  left = drops.search v was.detector.search

  pub shrunk_along : AreAlong v w
  shrunk_along = inr (one_earlier P w v p was.now was.of one)

  pub shrunk_room : HasRoomUpTo dropped w.state.places
  shrunk_room =
      room_less dropped w.state.places v.state.places (same_sizes P w v p was.now was.of one) (most_places P w v p was.now was.of one)
      left.room

  within : (q : ℕ) → IsLimit v w q (get_or dropped.candidates q 0)
  within q =
      ⊎_elim
      (λ (same : q ≡ p).
      subst (λ (x : ℕ). IsLimit v w x (get_or dropped.candidates x 0)) (sym same)
      (limit_less v w p (get_or dropped.candidates p 0) limit (drops.below v was.detector.search) limits))
      (λ (apart : q ≢ p).
      let most = candidates_within v dropped (P, was.of) left q in
      let places = same_place P w v p was.now was.of one q apart in
      record { most = omega (arith, most, places); kept = inr (omega (arith, places)) })
      (cases_eq q p)

  pub shrunk_search : Watches w dropped new → IsSearchOf w new
  shrunk_search watched = moved_search P v w dropped new was.of was.now shrunk_along left watched within shrunk_room
