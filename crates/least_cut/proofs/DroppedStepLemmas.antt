-- The last elimination of a search is dropped.
use Rattle.std.proofs.Common.{◌≡◌, ◌≢◌, ℕ, ◌<◌, ◌≤◌, List, [], ◌∷◌, ◌++◌, length, get_or, set, refl, sym, ap, ◌∙◌, subst, ⊎_elim}
use Rattle.std.proofs.Common.{arith}
use Rattle.std.proofs.lemmas.Bool.{cases_eq}
use Rattle.std.proofs.lemmas.List.{length-set, length-replicate, get_or-set_same, get_or-set_other, set-set, set-get_or}
use Rattle.dbg_base.specs.declared.elimination.Elimination.{Elimination}
use Rattle.dbg_base.specs.declared.elimination.Cause.{Cause}
use Rattle.dbg_base.specs.declared.elimination.Cause.TheVariants.{FalseAt, Passed}
use Rattle.dbg_base.specs.Cuts.{IsAtMost}
use Rattle.dbg_base.specs.Eliminations.{eliminated, reach_from}
use Rattle.causal_world.specs.Scenes.{Scene}
use Rattle.least_cut.specs.Watches.{WatchRoom, TruthLine}
use Rattle.least_cut.specs.Searches.{IsDue, IsStep, IsTrailFrom, none_of}
use Rattle.least_cut.specs.Detectors.{DetectorState, HasTruthRoom, IsSearchOf, AreWatchesOf, lines_of}
use Rattle.std.specs.List.{AllByRecursion}
use Rattle.std.specs.Prelude.{map}

-- the tuple keeps its number of components
length_reach : (tuple : List ℕ) (steps : List Elimination) → length (reach_from tuple steps) ≡ length tuple
length_reach tuple [] = refl
length_reach tuple (step ∷ steps) = length_reach (eliminated tuple step) steps ∙ length-set tuple step.pid.0 step.to

reach_last : (tuple : List ℕ) (steps : List Elimination) (step : Elimination)
    → reach_from tuple (steps ++ step ∷ []) ≡ eliminated (reach_from tuple steps) step
reach_last tuple [] step = refl
reach_last tuple (first ∷ steps) step = reach_last (eliminated tuple first) steps step

trail_last : (w : Scene) (lines : List TruthLine) (tuple : List ℕ) (steps : List Elimination) (step : Elimination)
    → IsTrailFrom w lines tuple (steps ++ step ∷ []) → IsTrailFrom w lines tuple steps × IsStep w lines (reach_from tuple steps) step
trail_last w lines tuple [] step sound = (tt, sound.0)
trail_last w lines tuple (first ∷ steps) step sound =
    let rest = trail_last w lines (eliminated tuple first) steps step sound.1 in
    ((sound.0, rest.0), rest.1)

-- a step raises its component
step_up : (w : Scene) (lines : List TruthLine) (tuple : List ℕ) (p from to : ℕ) (cause : Cause)
    → IsDue w lines tuple p from to cause → from ≤ to
step_up w lines tuple p from to FalseAt due = omega (arith, due.1)
step_up w lines tuple p from to (Passed q n) due = omega (arith, due.4)

module _ (v : Scene) (old : DetectorState) (steps : List Elimination) (step : Elimination) (is : IsSearchOf v old)
    (trail : old.trail ≡ steps ++ step ∷ []) where
  abbrev before : List ℕ
  before = reach_from (none_of v) steps

  split : IsTrailFrom v (lines_of old) (none_of v) steps × IsStep v (lines_of old) before step
  split = trail_last v (lines_of old) (none_of v) steps step (subst (IsTrailFrom v (lines_of old) (none_of v)) trail is.sound)

  were : old.candidates ≡ set before step.pid.0 step.to
  were = sym is.reached ∙ ap (reach_from (none_of v)) trail ∙ reach_last (none_of v) steps step

  counted : length before ≡ length v.state.places
  counted = length_reach (none_of v) steps ∙ length-replicate (length v.state.places) 0

  -- the process of the last step has a candidate
  pub has_candidate : step.pid.0 < length old.candidates
  has_candidate =
      let here = split.1.here in
      omega (arith, here, counted, ap (λ (l : List ℕ). length l) were, length-set before step.pid.0 step.to)

  -- with its old candidate the tuple is that before the step
  back : (new : List ℕ) → new ≡ set old.candidates step.pid.0 step.from → new ≡ before
  back new now =
      now ∙ ap (λ (l : List ℕ). set l step.pid.0 step.from) were ∙ set-set before step.pid.0 step.to step.from
      ∙ ap (set before step.pid.0) split.1.from ∙ set-get_or before step.pid.0 0

  module _ (new : DetectorState) (watches : new.watches ≡ old.watches) (room : new.trail_room ≡ old.trail_room) (rest : new.trail ≡ steps)
      (now : new.candidates ≡ set old.candidates step.pid.0 step.from) where
    -- the search goes back by one elimination
    pub dropped : IsSearchOf v new
    dropped =
        let enough = is.room.trail in
        record {
          watches = subst (AreWatchesOf v) (sym watches) is.watches;
          sound = subst (λ (l : List Elimination). IsTrailFrom v (lines_of new) (none_of v) l) (sym rest)
              (subst (λ (l : List WatchRoom). IsTrailFrom v (map (λ (watch : WatchRoom). watch.state.line) l) (none_of v) steps)
              (sym watches) split.0);
          reached = ap (reach_from (none_of v)) rest ∙ sym (back new.candidates now);
          room = record {
            truths = subst (λ (l : List WatchRoom). AllByRecursion (HasTruthRoom v.state.places) l) (sym watches) is.room.truths;
            trail = omega (arith, enough, room);
          };
        }

    -- and no candidate rises
    pub goes_back : IsAtMost new.candidates old.candidates
    goes_back = λ q.
        let p : ℕ = step.pid.0 in
        let up = step_up v (lines_of old) before p step.from step.to step.cause split.1.due in
        let here = split.1.here in
        let there : p < length before = omega (arith, here, counted) in
        let new_is : get_or new.candidates q 0 ≡ get_or before q 0 = ap (λ (l : List ℕ). get_or l q 0) (back new.candidates now) in
        let old_is : get_or old.candidates q 0 ≡ get_or (set before p step.to) q 0 = ap (λ (l : List ℕ). get_or l q 0) were in
        ⊎_elim
        (λ (same : q ≡ p).
        let at_p : get_or (set before p step.to) q 0 ≡ step.to =
        ap (λ (r : ℕ). get_or (set before p step.to) r 0) same ∙ get_or-set_same before p step.to 0 there in
        let from_p : get_or before q 0 ≡ step.from = ap (λ (r : ℕ). get_or before r 0) same ∙ sym split.1.from in
        omega (arith, new_is, old_is, at_p, from_p, up))
        (λ (apart : q ≢ p).
        let other : get_or (set before p step.to) q 0 ≡ get_or before q 0 = get_or-set_other before p q step.to 0 apart in
        omega (arith, new_is, old_is, other))
        (cases_eq q p)
