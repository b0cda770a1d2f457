-- A detector's search, as its candidates move.
use Rattle.std.proofs.Common.{◌≡◌, ◌≢◌, ℕ, suc, ◌+◌, ◌<◌, ◌≤◌, min, List, [], ◌∷◌, ◌++◌, length, map, get_or, set, sum}
use Rattle.std.proofs.Common.{refl, sym, ap, ◌∙◌, subst, arith}
use Rattle.std.proofs.lemmas.List.{length-replicate, length_push, get_or-set_same, get_or-set_other}
use Rattle.std.proofs.lemmas.List.Sums.{sum_by-cons, sum_by-set}
use Rattle.std.specs.List.{AllByRecursion}
use Rattle.dbg_base.specs.declared.ids.Pid.{Pid}
use Rattle.dbg_base.specs.declared.elimination.Elimination.{Elimination}
use Rattle.dbg_base.specs.declared.elimination.Cause.TheVariants.{Passed}
use Rattle.dbg_base.specs.Clocks.{IsClock}
use Rattle.dbg_base.specs.Trees.{Program}
use Rattle.dbg_base.specs.Histories.{History}
use Rattle.dbg_base.specs.Cuts.{IsAtMost}
use Rattle.dbg_base.specs.SystemStates.{place_at, history_of}
use Rattle.dbg_base.specs.Predicates.{Conjunct}
use Rattle.dbg_base.specs.Eliminations.{reach_from, IsSoundFrom, IsSound, reach}
use Rattle.dbg_base.proofs.EliminationLemmas.{reach_size, within_reach, few_steps, most_sum}
use Rattle.causal_world.specs.Scenes.{Scene, IsWorldOf}
use Rattle.causal_world.specs.Worlds.{IsSomeWorld}
use Rattle.causal_world.specs.Pasts.{row_at}
use Rattle.causal_world.proofs.WorldCallLemmas.{row_is_clock}
use Rattle.dbg_laws.proofs.UndoneCutLemmas.{own_part}
use Rattle.least_cut.specs.Watches.{TruthLine, WatchRoom}
use Rattle.least_cut.specs.Searches.{IsStep, IsTrailFrom, PassesPart, none_of, steps_up_to}
use Rattle.least_cut.specs.Detectors.{DetectorState, conjuncts_of, lines_of, HasTruthRoom, IsSearchOf, GoesOn, AreWatchesOf}
use Rattle.least_cut.proofs.WorldHistoryLemmas.{processes_counted, choices_placed, same_start, same_steps, trail_sound}
use Rattle.least_cut.proofs.DetectorResultLemmas.{all_here, lines_same}
use Rattle.least_cut.proofs.Trails.{reach_push, trail_push, step_raises}

pub candidates_sized : (w : Scene) (d : DetectorState) → IsSearchOf w d → length d.candidates ≡ length w.state.places
candidates_sized w d is =
    ap (λ (tuple : List ℕ). length tuple) (sym is.reached) ∙ reach_size (none_of w) d.trail
    ∙ length-replicate (length w.state.places) 0

module _ (w : Scene) (d : DetectorState) (some : IsSomeWorld w) (is : IsSearchOf w d) where
  abbrev P : Program
  P = some.0

  abbrev of : IsWorldOf P w
  of = some.1

  abbrev H : History
  H = history_of w.state

  abbrev all : List Conjunct
  all = conjuncts_of d

  sound_of : (steps : List Elimination) → IsTrailFrom w (lines_of d) (none_of w) steps → IsSound P H all steps
  sound_of steps trail =
      subst (λ (tuple : List ℕ). IsSoundFrom P H all tuple steps) (same_start P w of)
      (trail_sound P w of all (all_here w d.watches is.watches) (none_of w) steps
      (subst (λ (l : List TruthLine). IsTrailFrom w l (none_of w) steps) (lines_same w d.watches is.watches) trail))

  reached : reach H d.trail ≡ d.candidates
  reached = ap (λ (tuple : List ℕ). reach_from tuple d.trail) (sym (same_start P w of)) ∙ is.reached

  -- each candidate is at most one more than the number of events
  pub candidates_within : (p : ℕ) → get_or d.candidates p 0 ≤ place_at w.state p + 1
  candidates_within p =
      let most = within_reach P H all d.trail (sound_of d.trail is.sound) p in
      let same = ap (λ (tuple : List ℕ). get_or tuple p 0) reached in
      omega (arith, most, same, choices_placed P w of p)

  -- the sum of the candidates is bounded, too
  pub candidates_sum : sum d.candidates ≤ steps_up_to w.state.places
  candidates_sum =
      let most = most_sum d.candidates H (candidates_sized w d is ∙ sym (processes_counted P w of))
      (λ p. (let le = candidates_within p in omega (arith, le, choices_placed P w of p))) in
      omega (arith, most, same_steps P w of)

  -- there is room for one more step
  pub has_room : (step : Elimination) → IsStep w (lines_of d) d.candidates step → length d.trail < d.trail_room
  has_room step may =
      let more = trail_push w (lines_of d) (none_of w) d.trail step is.sound
      (subst (λ (tuple : List ℕ). IsStep w (lines_of d) tuple step) (sym is.reached) may) in
      let few = few_steps P H all (d.trail ++ step ∷ []) (sound_of (d.trail ++ step ∷ []) more) in
      let room = is.room.trail in
      omega (arith, few, same_steps P w of, room, length_push d.trail step)

-- no move
pub stays : (w : Scene) (d : DetectorState) → IsSearchOf w d → GoesOn w d d
stays w d is = record { search = is; watches = refl; trail_room = refl; most = λ q. omega arith }

-- one move after the other
pub goes_on : (w : Scene) (a b c : DetectorState) → GoesOn w a b → GoesOn w b c → GoesOn w a c
goes_on w a b c first second = record {
  search = second.search;
  watches = second.watches ∙ first.watches;
  trail_room = second.trail_room ∙ first.trail_room;
  most = λ q. (let one = first.most q in let other = second.most q in omega (arith, one, other));
}

-- a move by a step
pub steps_on : (w : Scene) (old new : DetectorState) (step : Elimination) → IsSearchOf w old
    → IsStep w (lines_of old) old.candidates step → new.watches ≡ old.watches
    → new.candidates ≡ set old.candidates step.pid.0 step.to → new.trail ≡ old.trail ++ step ∷ [] → new.trail_room ≡ old.trail_room
    → GoesOn w old new
steps_on w old new step is may watches candidates trail room =
    let lines : lines_of new ≡ lines_of old = ap (λ (l : List WatchRoom). map (λ watch. watch.state.line) l) watches in
    let more = trail_push w (lines_of old) (none_of w) old.trail step is.sound
    (subst (λ (tuple : List ℕ). IsStep w (lines_of old) tuple step) (sym is.reached) may) in
    record {
      search = record {
        watches = subst (AreWatchesOf w) (sym watches) is.watches;
        sound = subst (λ (l : List TruthLine). IsTrailFrom w l (none_of w) new.trail) (sym lines)
            (subst (λ (steps : List Elimination). IsTrailFrom w (lines_of old) (none_of w) steps) (sym trail) more);
        reached = ap (reach_from (none_of w)) trail ∙ reach_push (none_of w) old.trail step
            ∙ ap (λ (tuple : List ℕ). set tuple step.pid.0 step.to) is.reached ∙ sym candidates;
        room = record {
          truths = subst (AllByRecursion (HasTruthRoom w.state.places)) (sym watches) is.room.truths;
          trail = subst (λ (n : ℕ). steps_up_to w.state.places ≤ n) (sym room) is.room.trail;
        };
      };
      watches = watches;
      trail_room = room;
      most = subst (λ (tuple : List ℕ). IsAtMost old.candidates tuple) (sym candidates)
          (step_raises w (lines_of old) old.candidates step may);
    }

-- lists that are at most as large component by component have at most the same sum
pub sum_most : (a b : List ℕ) → length a ≡ length b → IsAtMost a b → sum a ≤ sum b
sum_most [] b size most = omega arith
sum_most (m ∷ a) [] size most = absurd (omega (arith, size))
sum_most (m ∷ a) (n ∷ b) size most =
    let first : m ≤ n = most 0 in
    let rest : sum a ≤ sum b = sum_most a b (omega (arith, size)) (λ p. most (suc p)) in
    omega (arith, first, rest, sum_by-cons (λ x. x) m a, sum_by-cons (λ x. x) n b)

pub on_sum : (w : Scene) (old new : DetectorState) → IsSearchOf w old → GoesOn w old new → sum old.candidates ≤ sum new.candidates
on_sum w old new is on =
    sum_most old.candidates new.candidates (candidates_sized w old is ∙ sym (candidates_sized w new on.search)) on.most

-- The clocks of a world.

module _ (w : Scene) (some : IsSomeWorld w) (q n : ℕ) (here : q < length w.state.places) (inside : n ≤ place_at w.state q) where
  clock_is : IsClock some.0 (history_of w.state) q n (row_at w.clocks q n)
  clock_is = row_is_clock some.0 w q n some.1 here inside

  pub row_within : (p : ℕ) → get_or (row_at w.clocks q n) p 0 ≤ place_at w.state p
  row_within p = let few = clock_is.consistent.within p in omega (arith, few, choices_placed some.0 w some.1 p)

  pub row_own : get_or (row_at w.clocks q n) q 0 ≡ n
  row_own =
      own_part some.0 (history_of w.state) q n (row_at w.clocks q n) some.1.possible clock_is
      (omega (arith, inside, choices_placed some.0 w some.1 q))

-- A candidate moves to its component in a clock.

module _ (w : Scene) (d : DetectorState) (some : IsSomeWorld w) (q p : Pid) (event from to : ℕ) (here : q.0 < length w.state.places)
    (there : p.0 < length w.state.places) (is : event ≡ min (get_or d.candidates q.0 0) (place_at w.state q.0))
    (was : from ≡ get_or d.candidates p.0 0) (part : to ≡ get_or (row_at w.clocks q.0 event) p.0 0) (more : from < to) where
  inside : event ≤ place_at w.state q.0
  inside = omega (arith, is)

  pub part_step : IsStep w (lines_of d) d.candidates (record { pid = p; from = from; to = to; cause = Passed q event })
  part_step = record {
    here = there;
    from = was;
    within = (let few = row_within w some q.0 event here inside p.0 in omega (arith, few, part, more));
    due = (here, omega (arith, is), inside, sym part, more);
  }

  pub passes_part : (new : List ℕ) → length d.candidates ≡ length w.state.places → new ≡ set d.candidates p.0 to
      → PassesPart w d.candidates q.0 p.0 new
  passes_part new size set_is =
      let apart : q.0 ≢ p.0 =
      λ same.
      let own = row_own w some q.0 event here inside in
      let mine : to ≡ event = part ∙ ap (λ (x : ℕ). get_or (row_at w.clocks q.0 event) x 0) (sym same) ∙ own in
      let component : from ≡ get_or d.candidates q.0 0 = was ∙ ap (λ (x : ℕ). get_or d.candidates x 0) (sym same) in
      omega (arith, mine, component, is, more) in
      record {
        part =
            let at_p : get_or new p.0 0 ≡ to =
            ap (λ (l : List ℕ). get_or l p.0 0) set_is ∙ get_or-set_same d.candidates p.0 to 0 (omega (arith, there, size)) in
            subst (λ (m : ℕ). get_or (row_at w.clocks q.0 m) p.0 0 ≤ get_or new p.0 0) is (omega (arith, at_p, part));
        own = ap (λ (l : List ℕ). get_or l q.0 0) set_is ∙ get_or-set_other d.candidates p.0 q.0 to 0 apart;
        others = λ r other.
            ap (λ (l : List ℕ). get_or l r 0) set_is ∙ get_or-set_other d.candidates p.0 r to 0 other;
      }

  pub part_sum : (new : List ℕ) → length d.candidates ≡ length w.state.places → new ≡ set d.candidates p.0 to
      → sum d.candidates < sum new
  part_sum new size set_is =
      let change = sum_by-set (λ x. x) d.candidates p.0 to 0 (omega (arith, there, size)) in
      let same = ap (λ (l : List ℕ). sum l) set_is in
      omega (arith, change, same, was, more)
