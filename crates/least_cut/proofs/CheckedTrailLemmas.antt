-- Checking a step of the search, condition by condition.
use Rattle.std.proofs.Common.{◌≡◌, ℕ, zero, suc, ◌+◌, ◌<◌, ◌≤◌, ◌↔◌, Bool, true, false, List, [], ◌∷◌, length, get_or, take}
use Rattle.std.proofs.Common.{nat_lt, IsTrue, sym, ap, ◌∙◌, subst, arith, take_all}
use Rattle.std.specs.List.{AllByRecursion}
use Rattle.std.proofs.lemmas.Bool.{ltb-true, lt-ltb}
use Rattle.std.proofs.lemmas.List.{take_more}
use Rattle.dbg_base.specs.declared.elimination.Elimination.{Elimination}
use Rattle.dbg_base.specs.declared.elimination.Cause.{Cause}
use Rattle.dbg_base.specs.declared.elimination.Cause.TheVariants.{Passed}
use Rattle.dbg_base.specs.declared.ids.Pid.{Pid}
use Rattle.dbg_base.specs.Eliminations.{eliminated, reach_from, IsSoundFrom, IsSound}
use Rattle.dbg_base.specs.SystemStates.{place_at, history_of}
use Rattle.dbg_base.specs.Trees.{Program}
use Rattle.dbg_base.specs.Predicates.{Conjunct}
use Rattle.cut_core.specs.declared.kind.Kind.{Kind}
use Rattle.causal_world.specs.Scenes.{Scene, IsWorldOf}
use Rattle.causal_world.specs.Worlds.{IsSomeWorld}
use Rattle.causal_world.specs.Pasts.{row_at}
use Rattle.causal_world.proofs.WorldCallLemmas.{kinds_placed}
use Rattle.least_cut.specs.Watches.{TruthLine, scan_of}
use Rattle.least_cut.specs.Searches.{IsDue, IsStep, IsTrailFrom, none_of}
use Rattle.least_cut.proofs.WorldHistoryLemmas.{IsHere, same_start, trail_sound, sound_trail}
use Rattle.least_cut.proofs.Trails.{reach_push, trail_push}

pub never_both : (a : Bool) → a ≡ true → a ≡ false → ⊥
never_both a yes_it no_it = cc

-- a process of the tally exists
pub of_tally : (w : Scene) (kinds : List (List Kind)) (p processes : ℕ) → IsSomeWorld w → kinds ≡ w.kinds → processes ≡ length kinds
    → p < processes → p < length w.state.places
of_tally w kinds p processes some same counted here =
    let sizes = ap (λ (l : List (List Kind)). length l) same in
    omega (arith, here, counted, sizes, kinds_placed w some)

pub to_tally : (w : Scene) (kinds : List (List Kind)) (p processes : ℕ) → IsSomeWorld w → kinds ≡ w.kinds → processes ≡ length kinds
    → p < length w.state.places → p < processes
to_tally w kinds p processes some same counted here =
    let sizes = ap (λ (l : List (List Kind)). length l) same in
    omega (arith, here, counted, sizes, kinds_placed w some)

-- a process moves to its component in a clock if that is greater
pub due_more : (w : Scene) (lines : List TruthLine) (tuple : List ℕ) (p from to part : ℕ) (cause : Cause) (q : Pid) (n : ℕ)
    → cause ≡ Passed q n → q.0 < length w.state.places → n ≤ get_or tuple q.0 0 → n ≤ place_at w.state q.0
    → part ≡ get_or (row_at w.clocks q.0 n) p 0 → part ≡ to
    → IsTrue (nat_lt from to) ↔ IsDue w lines tuple p from to cause
due_more w lines tuple p from to part cause q n is here most has part_is same = (
  λ (more : IsTrue (nat_lt from to)).
      subst (λ (x : Cause). IsDue w lines tuple p from to x) (sym is) (here, most, has, sym part_is ∙ same, ltb-true from to more),
  λ (due : IsDue w lines tuple p from to cause).
      let passed = subst (λ (x : Cause). IsDue w lines tuple p from to x) is due in
      lt-ltb from to passed.4,
)

-- A trail, step by step.

module _ (w : Scene) (lines : List TruthLine) where
  -- one more step
  pub trail_more : (tuple reached : List ℕ) (steps : List Elimination) (i : ℕ) (d : Elimination) → i < length steps
      → reach_from tuple (take i steps) ≡ reached → IsTrailFrom w lines tuple (take i steps) → IsStep w lines reached (get_or steps i d)
      → IsTrailFrom w lines tuple (take (i + 1) steps)
  trail_more tuple reached steps i d lt same trail is =
      subst (λ (l : List Elimination). IsTrailFrom w lines tuple l) (sym (take_more steps i d lt))
      (trail_push w lines tuple (take i steps) (get_or steps i d) trail
      (subst (λ (t : List ℕ). IsStep w lines t (get_or steps i d)) (sym same) is))

  -- each step of a trail is justified after those before it
  pub step_of : (tuple : List ℕ) (steps : List Elimination) (i : ℕ) (d : Elimination) → IsTrailFrom w lines tuple steps
      → i < length steps → IsStep w lines (reach_from tuple (take i steps)) (get_or steps i d)
  step_of tuple [] i d trail lt = absurd (omega arith)
  step_of tuple (step ∷ steps) zero d trail lt = trail.0
  step_of tuple (step ∷ steps) (suc i) d trail lt = step_of (eliminated tuple step) steps i d trail.1 (omega arith)

pub reach_more : (tuple reached : List ℕ) (steps : List Elimination) (i : ℕ) (d : Elimination) → i < length steps
    → reach_from tuple (take i steps) ≡ reached → reach_from tuple (take (i + 1) steps) ≡ eliminated reached (get_or steps i d)
reach_more tuple reached steps i d lt same =
    ap (reach_from tuple) (take_more steps i d lt) ∙ reach_push tuple (take i steps) (get_or steps i d)
    ∙ ap (λ (t : List ℕ). eliminated t (get_or steps i d)) same

-- A trail that was checked to its end.

module _ (w : Scene) (conjuncts : List Conjunct) (here : AllByRecursion (IsHere w) conjuncts) (steps : List Elimination) where
  -- it is sound
  pub whole_sound : (i : ℕ) → length steps ≤ i → IsTrailFrom w (scan_of w conjuncts) (none_of w) (take i steps)
      → (P : Program) → IsWorldOf P w → IsSound P (history_of w.state) conjuncts steps
  whole_sound i past trail P of =
      subst (λ (tuple : List ℕ). IsSoundFrom P (history_of w.state) conjuncts tuple steps) (same_start P w of)
      (trail_sound P w of conjuncts here (none_of w) steps
      (subst (λ (l : List Elimination). IsTrailFrom w (scan_of w conjuncts) (none_of w) l) (take_all i steps past) trail))

  -- each step of a sound list is justified
  pub sound_step : (P : Program) → IsWorldOf P w → IsSound P (history_of w.state) conjuncts steps → (i : ℕ) (d : Elimination)
      (reached : List ℕ) → i < length steps → reach_from (none_of w) (take i steps) ≡ reached
      → IsStep w (scan_of w conjuncts) reached (get_or steps i d)
  sound_step P of sound i d reached lt same =
      subst (λ (tuple : List ℕ). IsStep w (scan_of w conjuncts) tuple (get_or steps i d)) same
      (step_of w (scan_of w conjuncts) (none_of w) steps i d
      (sound_trail P w of conjuncts here (none_of w) steps
      (subst (λ (tuple : List ℕ). IsSoundFrom P (history_of w.state) conjuncts tuple steps) (sym (same_start P w of)) sound)) lt)
