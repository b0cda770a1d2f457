-- The results of a detector are those of the model for the history of its world.
use Rattle.std.proofs.Common.{◌≡◌, ◌≢◌, ℕ, zero, suc, ◌<◌, ◌≤◌, Bool, true, false, ◌&&◌, ◌||◌, ◌==◌, List, [], ◌∷◌, length}
use Rattle.std.proofs.Common.{◌⊎◌, inl, inr, get_or, set, map, replicate, refl, sym, ap, ◌∙◌, subst, ⊎_elim, arith, nat_le, not, if◌then◌else◌}
use Rattle.std.specs.Bool.{MatchBool}
use Rattle.std.specs.List.{AllByRecursion, list_any}
use Rattle.std.proofs.lemmas.Bool.{cases_lt, eq-eqb, eqb-true, le-leb, lt-leb, leb-true}
use Rattle.std.proofs.lemmas.Bool.Decides.{eqb_tells}
use Rattle.std.proofs.lemmas.List.{length-replicate, ext_get_or}
use Rattle.dbg_base.specs.declared.elimination.Elimination.{Elimination}
use Rattle.dbg_base.specs.declared.elimination.Cause.{Cause}
use Rattle.dbg_base.specs.declared.elimination.Cause.TheVariants.{FalseAt, Passed}
use Rattle.dbg_base.specs.declared.said.Head.{Head}
use Rattle.dbg_base.specs.declared.said.Head.TheVariants.{At, Past}
use Rattle.dbg_base.specs.Trees.{Program}
use Rattle.dbg_base.specs.Histories.{History}
use Rattle.dbg_base.specs.SystemStates.{history_of}
use Rattle.dbg_base.specs.Predicates.{Conjunct, IsLeast, NoCut}
use Rattle.dbg_base.specs.Frontiers.{choices_at, IsSettled, IsFrontier, head_at, heads_of}
use Rattle.dbg_base.specs.Eliminations.{is_ruled_out, IsCaused, eliminated, reach_from, IsSoundFrom, IsSound, zeros, reach}
use Rattle.dbg_base.proofs.EliminationLemmas.{reach_size, within_reach, no_cut, is_frontier, is_least}
use Rattle.causal_world.specs.Scenes.{Scene, IsWorldOf}
use Rattle.least_cut.specs.Watches.{TruthLine, WatchRoom, conjunct_in, truth_line, scan_of}
use Rattle.least_cut.specs.Searches.{IsTrailFrom, none_of, IsSettledAt}
use Rattle.least_cut.specs.Detectors.{DetectorState, conjuncts_of, lines_of, AreWatchesOf, IsDetectorOf, is_past_in}
use Rattle.least_cut.specs.Detectors.{TellsFrontier, reported_head, is_own_past, has_cut_in}
use Rattle.least_cut.proofs.WorldHistoryLemmas.{IsHere, choices_placed, same_start, has_clocks, truths_placed, neither}
use Rattle.least_cut.proofs.WorldHistoryLemmas.{trail_sound, settled_all}

-- Truth values and heads.

pub one_of : (a b : Bool) → (a || b) ≡ true → (a ≡ true) ⊎ (b ≡ true)
one_of true b e = inl refl
one_of false b e = inr e

pub both : (a b : Bool) → (a && b) ≡ true → (a ≡ true) × (b ≡ true)
both true b e = (refl, e)
both false b e = cc

none_at : (n p : ℕ) → let zero_row : List ℕ = replicate n 0 in ◌≡◌ {A = ℕ} (get_or zero_row p 0) 0
none_at zero p = refl
none_at (suc n) zero = refl
none_at (suc n) (suc p) = none_at n p

heads_counted : (H : History) (tuple : List ℕ) → length tuple ≡ length H → length (heads_of H tuple) ≡ length H
heads_counted [] tuple size = refl
heads_counted (choices ∷ H) [] size = absurd (omega (arith, size))
heads_counted (choices ∷ H) (n ∷ tuple) size = ap suc (heads_counted H tuple (omega (arith, size)))

heads_at : (H : History) (tuple : List ℕ) (p : ℕ) → length tuple ≡ length H → p < length H
    → get_or (heads_of H tuple) p Past ≡ head_at (choices_at H p) (get_or tuple p 0)
heads_at [] tuple p size here = absurd (omega arith)
heads_at (choices ∷ H) [] p size here = absurd (omega (arith, size))
heads_at (choices ∷ H) (n ∷ tuple) zero size here = refl
heads_at (choices ∷ H) (n ∷ tuple) (suc p) size here = heads_at H tuple p (omega (arith, size)) (omega arith)

-- A process that no conjunct names.

changed_below : (tuple : List ℕ) (p to q bound : ℕ) → (q ≡ p → to ≤ bound) → get_or tuple q 0 ≤ bound → get_or (set tuple p to) q 0 ≤ bound
changed_below [] p to q bound new old = old
changed_below (n ∷ tuple) zero to zero bound new old = new refl
changed_below (n ∷ tuple) zero to (suc q) bound new old = old
changed_below (n ∷ tuple) (suc p) to zero bound new old = old
changed_below (n ∷ tuple) (suc p) to (suc q) bound new old = changed_below tuple p to q bound (λ e. new (ap suc e)) old

module _ (P : Program) (H : History) (conjuncts : List Conjunct) (p : ℕ) (never : (n : ℕ) → is_ruled_out P H conjuncts p n ≡ false) where
  passed_within : (tuple : List ℕ) (from to : ℕ) (cause : Cause) → IsCaused P H conjuncts tuple p from to cause → to ≤ choices_at H p
  passed_within tuple from to FalseAt caused = absurd (let none = never from in let ruled = caused.0 in cc)
  passed_within tuple from to (Passed q n) caused =
      let part = caused.3 in
      let few = part.is.consistent.within p in
      omega (arith, few, part.part)

  -- its component is at most its number of choices
  pub unnamed_within : (tuple : List ℕ) (steps : List Elimination) → IsSoundFrom P H conjuncts tuple steps
      → get_or tuple p 0 ≤ choices_at H p → get_or (reach_from tuple steps) p 0 ≤ choices_at H p
  unnamed_within tuple [] sound within = within
  unnamed_within tuple (step ∷ steps) sound within =
      unnamed_within (eliminated tuple step) steps sound.1
      (changed_below tuple step.pid.0 step.to p (choices_at H p)
      (λ same. passed_within tuple step.from step.to step.cause
      (subst (λ (x : ℕ). IsCaused P H conjuncts tuple x step.from step.to step.cause) (sym same) sound.0.caused)) within)

-- Which processes are past.

module _ (P : Program) (w : Scene) (of : IsWorldOf P w) where
  abbrev H : History
  H = history_of w.state

  -- a process that is past has fewer choices
  pub past_fewer : (p n : ℕ) (conjuncts : List Conjunct) → AllByRecursion (IsHere w) conjuncts
      → is_past_in (scan_of w conjuncts) p n ≡ true → choices_at H p < n
  past_fewer p n [] here past = cc
  past_fewer p n (conjunct ∷ conjuncts) here past =
      let own = (truth_line w conjunct).truths in
      let first : Bool = (conjunct.process == p) && nat_le (length own) n in
      ⊎_elim
      (λ (named : first ≡ true).
      let parts = both (conjunct.process == p) (nat_le (length own) n) named in
      let le = leb-true (length own) n parts.1 in
      subst (λ (x : ℕ). choices_at H x < n) (eqb-true conjunct.process p parts.0)
      (omega (arith, le, truths_placed P w of conjunct here.0, choices_placed P w of conjunct.process)))
      (past_fewer p n conjuncts here.1)
      (one_of first (is_past_in (scan_of w conjuncts) p n) past)

  -- no conjunct names a process that has fewer choices and is not past
  unnamed : (p n : ℕ) (conjuncts : List Conjunct) → AllByRecursion (IsHere w) conjuncts → choices_at H p < n
      → is_past_in (scan_of w conjuncts) p n ≡ false → (k : ℕ) → is_ruled_out P H conjuncts p k ≡ false
  unnamed p n [] here more none k = refl
  unnamed p n (conjunct ∷ conjuncts) here more none k =
      let own = (truth_line w conjunct).truths in
      let parts = neither ((conjunct.process == p) && nat_le (length own) n) (is_past_in (scan_of w conjuncts) p n) none in
      let rest : is_ruled_out P H conjuncts p k ≡ false = unnamed p n conjuncts here.1 more parts.1 k in
      ⊎_elim
      (λ (same : ((conjunct.process == p) ≡ true) × (conjunct.process ≡ p)).
      let few : choices_at H conjunct.process < n = subst (λ (x : ℕ). choices_at H x < n) (sym same.1) more in
      let le : nat_le (length own) n ≡ true =
      le-leb (length own) n (omega (arith, few, truths_placed P w of conjunct here.0, choices_placed P w of conjunct.process)) in
      let named : ((conjunct.process == p) && nat_le (length own) n) ≡ false = parts.0 in
      let is : (conjunct.process == p) ≡ true = same.0 in
      absurd (cc))
      (λ (apart : ((conjunct.process == p) ≡ false) × (conjunct.process ≢ p)). let other : (conjunct.process == p) ≡ false = apart.0 in cc)
      (eqb_tells conjunct.process p)

-- what one line says of its own process
pub own_said : (candidates : List ℕ) (line : TruthLine) (p n : ℕ) → p ≡ line.process → n ≡ get_or candidates p 0
    → ((line.process == p) && nat_le (length line.truths) n) ≡ is_own_past candidates line
own_said candidates line p n own at_own =
    ap (λ (b : Bool). b && nat_le (length line.truths) n) (eq-eqb line.process p (sym own))
    ∙ ap (nat_le (length line.truths)) (at_own ∙ ap (λ (x : ℕ). get_or candidates x 0) own)

-- a line of another process says nothing of this one
pub other_line : (line : TruthLine) (own p n : ℕ) → own ≡ line.process → own ≢ p
    → ((line.process == p) && nat_le (length line.truths) n) ≡ false
other_line line own p n is apart =
    ⊎_elim
    (λ (same : ((line.process == p) ≡ true) × (line.process ≡ p)). absurd (apart (is ∙ same.1)))
    (λ (other : ((line.process == p) ≡ false) × (line.process ≢ p)). let none : (line.process == p) ≡ false = other.0 in cc)
    (eqb_tells line.process p)

-- the same for all lines
pub own_none : (candidates : List ℕ) (lines : List TruthLine) → list_any (is_own_past candidates) lines ≡ false
    → (p : ℕ) → is_past_in lines p (get_or candidates p 0) ≡ false
own_none candidates [] none p = refl
own_none candidates (line ∷ lines) none p =
    let parts = neither (is_own_past candidates line) (list_any (is_own_past candidates) lines) none in
    let rest : is_past_in lines p (get_or candidates p 0) ≡ false = own_none candidates lines parts.1 p in
    ⊎_elim
    (λ (same : ((line.process == p) ≡ true) × (line.process ≡ p)).
    let is : (line.process == p) ≡ true = same.0 in
    let own : nat_le (length line.truths) (get_or candidates p 0) ≡ false =
    ap (λ (x : ℕ). nat_le (length line.truths) (get_or candidates x 0)) (sym same.1) ∙ parts.0 in
    cc)
    (λ (apart : ((line.process == p) ≡ false) × (line.process ≢ p)). let other : (line.process == p) ≡ false = apart.0 in cc)
    (eqb_tells line.process p)

-- one line says it of a process
more_true : (a b : Bool) → b ≡ true → (a || b) ≡ true
more_true true b e = refl
more_true false b e = e

pub own_some : (candidates : List ℕ) (lines : List TruthLine) → list_any (is_own_past candidates) lines ≡ true
    → (p : ℕ) × (is_past_in lines p (get_or candidates p 0) ≡ true)
own_some candidates [] some = cc
own_some candidates (line ∷ lines) some =
    let p : ℕ = line.process in
    let first : ℕ → Bool = λ r. (p == r) && nat_le (length line.truths) (get_or candidates r 0) in
    ⊎_elim
    (λ (own : is_own_past candidates line ≡ true).
    (p, ap (λ (b : Bool). b || is_past_in lines p (get_or candidates p 0)) (own_said candidates line p (get_or candidates p 0) refl refl ∙ own)))
    (λ (other : list_any (is_own_past candidates) lines ≡ true).
    let rest = own_some candidates lines other in
    (rest.0, more_true (first rest.0) (is_past_in lines rest.0 (get_or candidates rest.0 0)) rest.1))
    (one_of (is_own_past candidates line) (list_any (is_own_past candidates) lines) some)

-- A detector.

-- the processes of its conjuncts exist
pub all_here : (w : Scene) (watches : List WatchRoom) → AreWatchesOf w watches
    → AllByRecursion (IsHere w) (map (λ (watch : WatchRoom). conjunct_in watch.state) watches)
all_here w [] are = tt
all_here w (watch ∷ watches) are = (are.0.here, all_here w watches are.1)

-- the truths that it keeps are those of the conjuncts
pub lines_same : (w : Scene) (watches : List WatchRoom) → AreWatchesOf w watches
    → map (λ (watch : WatchRoom). watch.state.line) watches ≡ scan_of w (map (λ (watch : WatchRoom). conjunct_in watch.state) watches)
lines_same w [] are = refl
lines_same w (watch ∷ watches) are =
    let first : watch.state.line ≡ truth_line w (conjunct_in watch.state) = are.0.line in
    let rest = lines_same w watches are.1 in
    cc

module _ (P : Program) (w : Scene) (of : IsWorldOf P w) (d : DetectorState) (is : IsDetectorOf w d) where
  abbrev all : List Conjunct
  all = conjuncts_of d

  abbrev past_at : ℕ → Bool
  past_at p = is_past_in (lines_of d) p (get_or d.candidates p 0)

  here : AllByRecursion (IsHere w) all
  here = all_here w d.watches is.search.watches

  lines : lines_of d ≡ scan_of w all
  lines = lines_same w d.watches is.search.watches

  -- its eliminations are sound
  pub reported_sound : IsSound P (H P w of) all d.trail
  reported_sound =
      subst (λ (tuple : List ℕ). IsSoundFrom P (H P w of) all tuple d.trail) (same_start P w of)
      (trail_sound P w of all here (none_of w) d.trail
      (subst (λ (l : List TruthLine). IsTrailFrom w l (none_of w) d.trail) lines is.search.sound))

  -- they lead to its candidates
  pub reported_reach : reach (H P w of) d.trail ≡ d.candidates
  reported_reach = ap (λ (tuple : List ℕ). reach_from tuple d.trail) (sym (same_start P w of)) ∙ is.search.reached

  sized : length (reach (H P w of) d.trail) ≡ length (H P w of)
  sized = reach_size (zeros (H P w of)) d.trail ∙ length-replicate (length (H P w of)) 0

  settled : IsSettled P (H P w of) all (reach (H P w of) d.trail)
  settled =
      settled_all P w of all here (reach (H P w of) d.trail) sized (within_reach P (H P w of) all d.trail reported_sound)
      (λ q there.
      subst (λ (tuple : List ℕ). IsSettledAt w (scan_of w all) tuple q) (sym reported_reach)
      (subst (λ (l : List TruthLine). IsSettledAt w l d.candidates q) lines (is.settled q there)))

  -- which is the frontier
  pub reported_frontier : IsFrontier P (H P w of) all (reach (H P w of) d.trail)
  reported_frontier = is_frontier P (H P w of) all d.trail reported_sound settled (has_clocks P w of)

  -- a candidate that the detector reports as past is past
  reported_more : (p : ℕ) → past_at p ≡ true → choices_at (H P w of) p < get_or d.candidates p 0
  reported_more p past =
      past_fewer P w of p (get_or d.candidates p 0) all here
      (ap (λ (l : List TruthLine). is_past_in l p (get_or d.candidates p 0)) (sym lines) ∙ past)

  -- and no other is
  reported_within : (p : ℕ) → past_at p ≡ false → get_or d.candidates p 0 ≤ choices_at (H P w of) p
  reported_within p none =
      ⊎_elim
      (λ (more : choices_at (H P w of) p < get_or d.candidates p 0).
      subst (λ (tuple : List ℕ). get_or tuple p 0 ≤ choices_at (H P w of) p) reported_reach
      (unnamed_within P (H P w of) all p
      (unnamed P w of p (get_or d.candidates p 0) all here more
      (ap (λ (l : List TruthLine). is_past_in l p (get_or d.candidates p 0)) (sym lines) ∙ none))
      (zeros (H P w of)) d.trail reported_sound
      (let none_there = none_at (length (H P w of)) p in omega (arith, none_there))))
      (λ (few : get_or d.candidates p 0 ≤ choices_at (H P w of) p). few)
      (cases_lt (choices_at (H P w of) p) (get_or d.candidates p 0))

  -- if a candidate is past, no cut satisfies the conjuncts
  pub reported_none : (p : ℕ) → past_at p ≡ true → NoCut P (H P w of) all
  reported_none p past =
      no_cut P (H P w of) all d.trail reported_sound p
      (subst (λ (tuple : List ℕ). choices_at (H P w of) p < get_or tuple p 0) (sym reported_reach) (reported_more p past))

  -- otherwise the candidates are the least cut that does
  pub reported_least : ((p : ℕ) → past_at p ≡ false) → IsLeast P (H P w of) all d.candidates
  reported_least none =
      subst (λ (tuple : List ℕ). IsLeast P (H P w of) all tuple) reported_reach
      (is_least P (H P w of) all d.trail reported_sound settled (has_clocks P w of)
      (λ p. subst (λ (tuple : List ℕ). get_or tuple p 0 ≤ choices_at (H P w of) p) (sym reported_reach) (reported_within p (none p))))

  -- whether a cut satisfies the conjuncts
  pub reported_cut : MatchBool (has_cut_in d.candidates (lines_of d)) (IsLeast P (H P w of) all d.candidates) (NoCut P (H P w of) all)
  reported_cut = by (list_any (is_own_past d.candidates) (lines_of d)) refl
    where
      by : (past : Bool) → list_any (is_own_past d.candidates) (lines_of d) ≡ past
          → MatchBool (not past) (IsLeast P (H P w of) all d.candidates) (NoCut P (H P w of) all)
      by true some = let one = own_some d.candidates (lines_of d) some in reported_none one.0 one.1
      by false none = reported_least (own_none d.candidates (lines_of d) none)

  same_head : (p : ℕ) → head_at (choices_at (H P w of) p) (get_or d.candidates p 0)
      ≡ reported_head (lines_of d) p (get_or d.candidates p 0)
  same_head p = by_past (past_at p) refl
    where
      by_past : (past : Bool) → past_at p ≡ past → head_at (choices_at (H P w of) p) (get_or d.candidates p 0)
          ≡ (if past then Past else At (get_or d.candidates p 0))
      by_past true is_past =
          ap (λ (b : Bool). if b then At (get_or d.candidates p 0) else Past)
          (lt-leb (get_or d.candidates p 0) (choices_at (H P w of) p) (reported_more p is_past))
      by_past false none =
          ap (λ (b : Bool). if b then At (get_or d.candidates p 0) else Past)
          (le-leb (get_or d.candidates p 0) (choices_at (H P w of) p) (reported_within p none))

  -- the frontier, component by component
  pub reported_heads : (heads : List Head) → length heads ≡ length d.candidates
      → ((p : ℕ) → p < length d.candidates → get_or heads p Past ≡ reported_head (lines_of d) p (get_or d.candidates p 0))
      → TellsFrontier P (H P w of) all heads
  reported_heads heads size each =
      let sizes : length d.candidates ≡ length (H P w of) = ap (λ (tuple : List ℕ). length tuple) (sym reported_reach) ∙ sized in
      record {
        tuple = d.candidates;
        is = subst (λ (tuple : List ℕ). IsFrontier P (H P w of) all tuple) reported_reach reported_frontier;
        reported = ext_get_or Past heads (heads_of (H P w of) d.candidates)
            (size ∙ sizes ∙ sym (heads_counted (H P w of) d.candidates sizes))
            (λ p lt. let there : p < length d.candidates = omega (arith, size) in
            each p there ∙ sym (same_head p)
            ∙ sym (heads_at (H P w of) d.candidates p sizes (omega (arith, sizes))));
      }
