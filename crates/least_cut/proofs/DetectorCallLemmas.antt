-- What the calls of a detector require follows from the contracts of its world's calls.
use Rattle.std.proofs.Common.{◌≡◌, ℕ, ◌+◌, ◌<◌, ◌≤◌, List, length, get_or, set, sym, ap, ◌∙◌, subst, inl, inr, arith}
use Rattle.std.proofs.lemmas.List.{get_or-set_same}
use Rattle.std.proofs.lemmas.Option.{slice_get-get_or}
use Rattle.dbg_base.specs.declared.elimination.Elimination.{Elimination}
use Rattle.dbg_base.specs.Trees.{Program}
use Rattle.dbg_base.specs.Histories.{History}
use Rattle.dbg_base.specs.Reversal.{without_last}
use Rattle.dbg_base.specs.Eliminations.{reach_from}
use Rattle.dbg_base.specs.SystemStates.{SystemState, line_of, place_at, history_of, after_choice, after_redo, after_undo, after_rollback}
pub use Rattle.cut_core.specs.ConsistentCuts.{IsConsistentCut}
use Rattle.causal_world.specs.Scenes.{Scene, IsWorldOf}
use Rattle.causal_world.proofs.WorldOfLemmas.{history_without}
use Rattle.causal_world.proofs.WorldCallLemmas.{events_counted, kinds_placed}
use Rattle.dbg_laws.proofs.LineStates.{length_cut, history_choice, history_redo}
use Rattle.dbg_laws.proofs.UndoLemmas.{without_with}
use Rattle.least_cut.specs.Watches.{TruthLine, WatchState}
use Rattle.least_cut.specs.Searches.{IsTrailFrom, IsSettledAt, none_of}
use Rattle.least_cut.specs.Detectors.{DetectorState, lines_of, HasRoomUpTo, IsDetectorOf, IsSameButRoom, IsGrown, IsShrunk}
use Rattle.least_cut.specs.Detectors.{IsMoved, WasOf, Begins}
use Rattle.least_cut.proofs.PrefixLemmas.{begins_rollback}
use Rattle.least_cut.proofs.MovedDetectorLemmas.{room_less, states_kept, seen_kept}

-- a detector that gets room is still one
pub roomier_detector : (w : Scene) (old new : DetectorState) → IsSameButRoom old new → IsDetectorOf w old → IsDetectorOf w new
roomier_detector w old new same is =
    let lines : lines_of old ≡ lines_of new = sym (seen_kept (λ (s : WatchState). s.line) new.watches old.watches same.states) in
    record {
      search = record {
        watches = states_kept w new.watches old.watches same.states is.search.watches;
        sound = subst (λ (steps : List Elimination). IsTrailFrom w (lines_of new) (none_of w) steps) (sym same.trail)
            (subst (λ (l : List TruthLine). IsTrailFrom w l (none_of w) old.trail) lines is.search.sound);
        reached = ap (reach_from (none_of w)) same.trail ∙ is.search.reached ∙ sym same.candidates;
        room = same.room w.state.places is.search.room;
      };
      settled = λ q here.
          subst (λ (tuple : List ℕ). IsSettledAt w (lines_of new) tuple q) (sym same.candidates)
          (subst (λ (l : List TruthLine). IsSettledAt w l old.candidates q) lines (is.settled q here));
    }

module _ (P : Program) (before : Scene) (of : IsWorldOf P before) (cut : List ℕ) (consistent : IsConsistentCut before.kinds cut) where
  within_places : (q : ℕ) → get_or cut q 0 ≤ place_at before.state q
  within_places q = let few = consistent.within q in omega (arith, few, events_counted P before q of)

  -- the history at a cut
  pub begins_at_cut : (w : Scene) → w.state ≡ after_rollback before.state cut → Begins (history_of w.state) (history_of before.state)
  begins_at_cut w state =
      subst (λ (M : SystemState). Begins (history_of M) (history_of before.state)) (sym state)
      (begins_rollback before.state of.state.within cut within_places)

module _ (P : Program) (before w : Scene) (of : IsWorldOf P before) (p : ℕ) (here : p < length P) where
  size : p < length (history_of before.state)
  size = omega (arith, here, length_cut before.state.lines before.state.places, of.state.lines)

  moved_on : w.state.places ≡ set before.state.places p (place_at before.state p + 1)
      → place_at w.state p ≡ place_at before.state p + 1
  moved_on is =
      let there : p < length before.state.places = omega (arith, here, of.state.places) in
      ap (λ (l : List ℕ). get_or l p 0) is ∙ get_or-set_same before.state.places p (place_at before.state p + 1) 0 there

  -- without a new choice the events are those before it
  without_choice : (k : ℕ) → w.state ≡ after_choice before.state p k → without_last (history_of w.state) p ≡ history_of before.state
  without_choice k state =
      ap (λ (M : SystemState). without_last (history_of M) p) state
      ∙ ap (λ (H : History). without_last H p) (history_choice P before.state of.state p here k)
      ∙ without_with (history_of before.state) p k size

  -- so they are without a choice that was made again
  without_redo : place_at before.state p < length (line_of before.state p) → w.state ≡ after_redo before.state p
      → without_last (history_of w.state) p ≡ history_of before.state
  without_redo more state =
      let line = line_of before.state p in
      let k : ℕ = get_or line (place_at before.state p) 0 in
      ap (λ (M : SystemState). without_last (history_of M) p) state
      ∙ ap (λ (H : History). without_last H p)
      (history_redo P before.state of.state p here k (slice_get-get_or line (place_at before.state p) 0 more))
      ∙ without_with (history_of before.state) p k size

-- A detector of the world `before` follows to the world w.
module _ (P : Program) (before w : Scene) (d : DetectorState) (of : IsWorldOf P before) (now : IsWorldOf P w)
    (is : IsDetectorOf before d) where
  was : WasOf P before d w
  was = record { detector = is; of = of; now = now }

  -- a process has made a choice
  pub has_grown : (p k : ℕ) → p < length P → w.state ≡ after_choice before.state p k → IsGrown d p w
  has_grown p k here state =
      let place = moved_on P before w of p here (ap (λ (M : SystemState). M.places) state) in
      (P, before, was, omega (arith, place), sym (without_choice P before w of p here k state))

  -- a process has made a choice again
  pub has_redone : (p : ℕ) → p < length P → place_at before.state p < length (line_of before.state p)
      → w.state ≡ after_redo before.state p → IsGrown d p w
  has_redone p here more state =
      let place = moved_on P before w of p here (ap (λ (M : SystemState). M.places) state) in
      (P, before, was, omega (arith, place), sym (without_redo P before w of p here more state))

  -- a process has undone its last event
  pub has_shrunk : (p : ℕ) → p < length P → w.state ≡ after_undo before.state p → IsShrunk d p w
  has_shrunk p here state = (P, before, was, ap history_of state ∙ history_without P before.state p of.state here)

  module _ (cut : List ℕ) (consistent : IsConsistentCut before.kinds cut) (state : w.state ≡ after_rollback before.state cut) where
    -- all processes have gone back to the cut
    pub has_moved : IsMoved d w
    has_moved = (P, before, was, inr (begins_at_cut P before of cut consistent w state))

    pub has_moved_room : HasRoomUpTo d w.state.places
    has_moved_room =
        subst (HasRoomUpTo d) (sym (ap (λ (N : SystemState). N.places) state))
        (room_less d cut before.state.places (consistent.sizes ∙ kinds_placed before (P, of)) (within_places P before of cut consistent)
        is.search.room)

-- A detector of the world w follows back to the world `before`.
module _ (P : Program) (before w : Scene) (d : DetectorState) (of : IsWorldOf P before) (now : IsWorldOf P w)
    (is : IsDetectorOf w d) where
  were : WasOf P w d before
  were = record { detector = is; of = now; now = of }

  -- a choice is undone
  pub has_unstepped : (p k : ℕ) → p < length P → w.state ≡ after_choice before.state p k → IsShrunk d p before
  has_unstepped p k here state = (P, w, were, sym (without_choice P before w of p here k state))

  -- a choice that was made again is undone
  pub has_unredone : (p : ℕ) → p < length P → place_at before.state p < length (line_of before.state p)
      → w.state ≡ after_redo before.state p → IsShrunk d p before
  has_unredone p here more state = (P, w, were, sym (without_redo P before w of p here more state))

  -- undone events are made again
  pub has_gone_forth : Begins (history_of w.state) (history_of before.state) → IsMoved d before
  has_gone_forth begins = (P, w, were, inl begins)
