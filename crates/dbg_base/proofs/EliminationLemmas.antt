-- The tuple that the search for a cut reaches is at most each cut that satisfies the conjuncts, and at most each settled tuple.
use Rattle.std.proofs.Common.{◌≡◌, ◌≢◌, ℕ, zero, suc, ◌+◌, ◌<◌, ◌≤◌, min, Bool, true, false, not, ◌&&◌, ◌||◌, ◌==◌, ◌⊎◌, inl, inr}
use Rattle.std.proofs.Common.{List, [], ◌∷◌, length, get_or, set, map, sum, replicate, refl, sym, ap, ◌∙◌, subst, ⊎_elim, arith}
use Rattle.std.specs.List.{AllByRecursion}
use Rattle.std.proofs.lemmas.Bool.{cases_lt, eqb-true}
use Rattle.std.proofs.lemmas.List.{length-set, length-replicate, get_or_past}
use Rattle.std.proofs.lemmas.List.Sums.{sum_by-cons, sum_by-set}
use Rattle.dbg_base.specs.declared.elimination.Elimination.{Elimination}
use Rattle.dbg_base.specs.declared.elimination.Cause.{Cause}
use Rattle.dbg_base.specs.declared.elimination.Cause.TheVariants.{FalseAt, Passed}
use Rattle.dbg_base.specs.Trees.{Program}
use Rattle.dbg_base.specs.Histories.{History}
use Rattle.dbg_base.specs.Counts.{sent, got, sends_to, receives_from}
use Rattle.dbg_base.specs.Cuts.{IsAtMost}
use Rattle.dbg_base.specs.Clocks.{IsClock}
use Rattle.dbg_base.specs.Predicates.{Conjunct, is_true, Satisfies, IsLeast, NoCut}
use Rattle.dbg_base.specs.Frontiers.{choices_at, IsSettled, IsFrontier}
use Rattle.dbg_base.specs.Eliminations.{is_ruled_out, IsCaused, IsElimination, eliminated, reach_from, IsSoundFrom, zeros, IsSound}
use Rattle.dbg_base.specs.Eliminations.{reach, most_steps}
use Rattle.dbg_base.proofs.CountLemmas.{count_grows}

-- Lists.

-- what holds of all elements and implies something at each
all_implied : {X : Type 0} (Q R : X → Type 0) → ((x : X) → Q x → R x) → (xs : List X) → AllByRecursion Q xs → AllByRecursion R xs
all_implied Q R f [] all = tt
all_implied Q R f (x ∷ xs) all = (f x all.0, all_implied Q R f xs all.1)

-- a changed component is at most a bound if its old and its new value are
set_below : (tuple : List ℕ) (p to q bound : ℕ) → (q ≡ p → to ≤ bound) → get_or tuple q 0 ≤ bound → get_or (set tuple p to) q 0 ≤ bound
set_below [] p to q bound new old = old
set_below (n ∷ tuple) zero to zero bound new old = new refl
set_below (n ∷ tuple) zero to (suc q) bound new old = old
set_below (n ∷ tuple) (suc p) to zero bound new old = old
set_below (n ∷ tuple) (suc p) to (suc q) bound new old = set_below tuple p to q bound (λ e. new (ap (λ (x : ℕ). suc x) e)) old

pub none_at : (n p : ℕ) → let zero_row : List ℕ = replicate n 0 in ◌≡◌ {A = ℕ} (get_or zero_row p 0) 0
none_at zero p = refl
none_at (suc n) zero = refl
none_at (suc n) (suc p) = none_at n p

none_in : (n : ℕ) → sum (replicate n 0) ≡ 0
none_in zero = refl
none_in (suc n) =
    let rest : sum (replicate n 0) ≡ 0 = none_in n in
    let counted : sum (0 ∷ replicate n 0) ≡ 0 + sum (replicate n 0) = sum_by-cons (λ x. x) 0 (replicate n 0) in
    omega arith

-- What rules a local state out.

-- each existing local state has a clock
abbrev pub HasClocks : Program → History → Type 0
HasClocks P H = (q n : ℕ) → q < length H → n ≤ choices_at H q → (cut : List ℕ) × IsClock P H q n cut

either_true : (a b : Bool) → (a || b) ≡ true → (a ≡ true) ⊎ (b ≡ true)
either_true true b e = inl refl
either_true false b e = inr e

both_true : (a b : Bool) → (a && not b) ≡ true → (a ≡ true) × (b ≡ false)
both_true true true e = cc
both_true true false e = (refl, refl)
both_true false b e = cc

-- no conjunct of process p rules out its n-th local state if all are true there
not_ruled_out : (P : Program) (H : History) (p n : ℕ) (Q : Conjunct → Type 0)
    → ((conjunct : Conjunct) → conjunct.process ≡ p → Q conjunct → is_true P H conjunct n ≡ true)
    → (conjuncts : List Conjunct) → AllByRecursion Q conjuncts → is_ruled_out P H conjuncts p n ≡ true → ⊥
not_ruled_out P H p n Q holds [] all ruled = cc
not_ruled_out P H p n Q holds (conjunct ∷ conjuncts) all ruled =
    ⊎_elim
    (λ (here : ((conjunct.process == p) && not (is_true P H conjunct n)) ≡ true).
    let parts = both_true (conjunct.process == p) (is_true P H conjunct n) here in
    let fails : is_true P H conjunct n ≡ false = parts.1 in
    let true_there : is_true P H conjunct n ≡ true = holds conjunct (eqb-true conjunct.process p parts.0) all.0 in
    absurd (cc))
    (not_ruled_out P H p n Q holds conjuncts all.1)
    (either_true ((conjunct.process == p) && not (is_true P H conjunct n)) (is_ruled_out P H conjuncts p n) ruled)

-- One step.

module _ (P : Program) (H : History) (conjuncts : List Conjunct) where
  -- a component at which the conjuncts hold is greater than a lower one at which one of them is false
  false_below : (p from bound : ℕ) (Q : Conjunct → Type 0) → AllByRecursion Q conjuncts → from ≤ bound
      → ((conjunct : Conjunct) → conjunct.process ≡ p → from ≡ bound → Q conjunct → is_true P H conjunct from ≡ true)
      → is_ruled_out P H conjuncts p from ≡ true → from + 1 ≤ bound
  false_below p from bound Q all le holds ruled =
      ⊎_elim
      (λ (less : from < bound). omega arith)
      (λ (most : bound ≤ from).
      let same : from ≡ bound = omega arith in
      absurd (not_ruled_out P H p from Q (λ conjunct is q. holds conjunct is same q) conjuncts all ruled))
      (cases_lt from bound)

  module _ (tuple : List ℕ) (step : Elimination) (is : IsElimination P H conjuncts tuple step) where
    abbrev p : ℕ
    p = step.pid.0

    -- a tuple stays below another one that is at least the new component
    step_below : (other : List ℕ) → IsAtMost tuple other → step.to ≤ get_or other p 0 → IsAtMost (eliminated tuple step) other
    step_below other below to q =
        set_below tuple p step.to q (get_or other q 0)
        (λ same. subst (λ (x : ℕ). step.to ≤ get_or other x 0) (sym same) to) (below q)

    -- the new component is at most that of each satisfying cut, and of each settled tuple
    to_cut : (cut : List ℕ) (cause : Cause) → IsCaused P H conjuncts tuple p step.from step.to cause → Satisfies P H conjuncts cut
        → IsAtMost tuple cut → step.to ≤ get_or cut p 0
    to_cut cut FalseAt caused satisfies below =
        let le = below p in
        let more = false_below p step.from (get_or cut p 0) (λ conjunct. is_true P H conjunct (get_or cut conjunct.process 0) ≡ true)
        satisfies.all (let from = is.from in omega arith)
        (λ conjunct here same holds.
        ap (λ (n : ℕ). is_true P H conjunct n) (same ∙ ap (λ (x : ℕ). get_or cut x 0) (sym here)) ∙ holds)
        caused.0 in
        omega (arith, more, caused.1)
    to_cut cut (Passed q n) caused satisfies below =
        let le = below q.0 in
        let part = caused.3 in
        let enough : n ≤ get_or cut q.0 0 = omega (arith, le, caused.1) in
        let above = part.is.least cut satisfies.consistent enough p in
        omega (arith, above, part.part)

    to_settled : (other : List ℕ) (cause : Cause) → IsCaused P H conjuncts tuple p step.from step.to cause
        → IsSettled P H conjuncts other → HasClocks P H → IsAtMost tuple other → step.to ≤ get_or other p 0
    to_settled other FalseAt caused settled clocks below =
        let le = below p in
        let within = is.within in
        let more = false_below p step.from (get_or other p 0)
        (λ conjunct. get_or other conjunct.process 0 ≤ choices_at H conjunct.process
        → is_true P H conjunct (get_or other conjunct.process 0) ≡ true)
        settled.all (let from = is.from in omega arith)
        (λ conjunct here same holds.
        let own : step.from ≡ get_or other conjunct.process 0 = same ∙ ap (λ (x : ℕ). get_or other x 0) (sym here) in
        let few : choices_at H p ≡ choices_at H conjunct.process = ap (λ (x : ℕ). choices_at H x) (sym here) in
        ap (λ (n : ℕ). is_true P H conjunct n) own ∙ holds (omega arith))
        caused.0 in
        omega (arith, more, caused.1)
    to_settled other (Passed q n) caused settled clocks below =
        let le = below q.0 in
        let part = caused.3 in
        let own = clocks q.0 (min (get_or other q.0 0) (choices_at H q.0)) caused.0 (omega arith) in
        let reaches = own.1.reaches in
        let enough : n ≤ get_or own.0 q.0 0 = omega (arith, le, caused.1, caused.2, reaches) in
        let above = part.is.least own.0 own.1.consistent enough p in
        let below_other = settled.clocks q.0 own.0 caused.0 own.1 p in
        omega (arith, above, part.part, below_other)

    to_within : (cause : Cause) → IsCaused P H conjuncts tuple p step.from step.to cause → step.to ≤ choices_at H p + 1
    to_within FalseAt caused = let within = is.within in omega (arith, within, caused.1)
    to_within (Passed q n) caused =
        let part = caused.3 in
        let few = part.is.consistent.within p in
        omega (arith, few, part.part)

    to_more : (cause : Cause) → IsCaused P H conjuncts tuple p step.from step.to cause → step.from < step.to
    to_more FalseAt caused = omega (arith, caused.1)
    to_more (Passed q n) caused = caused.4

-- All steps.

module _ (P : Program) (H : History) (conjuncts : List Conjunct) where
  -- every satisfying cut that is at least the tuple is at least what a sound list reaches from it
  pub stays_above : (tuple : List ℕ) (steps : List Elimination) (cut : List ℕ) → IsSoundFrom P H conjuncts tuple steps
      → Satisfies P H conjuncts cut → IsAtMost tuple cut → IsAtMost (reach_from tuple steps) cut
  stays_above tuple [] cut sound satisfies below = below
  stays_above tuple (step ∷ steps) cut sound satisfies below =
      stays_above (eliminated tuple step) steps cut sound.1 satisfies
      (step_below P H conjuncts tuple step sound.0 cut below
      (to_cut P H conjuncts tuple step sound.0 cut step.cause sound.0.caused satisfies below))

  -- so is every settled tuple
  pub stays_settled : (tuple : List ℕ) (steps : List Elimination) (other : List ℕ) → IsSoundFrom P H conjuncts tuple steps
      → IsSettled P H conjuncts other → HasClocks P H → IsAtMost tuple other → IsAtMost (reach_from tuple steps) other
  stays_settled tuple [] other sound settled clocks below = below
  stays_settled tuple (step ∷ steps) other sound settled clocks below =
      stays_settled (eliminated tuple step) steps other sound.1 settled clocks
      (step_below P H conjuncts tuple step sound.0 other below
      (to_settled P H conjuncts tuple step sound.0 other step.cause sound.0.caused settled clocks below))

  -- each component is at most one more than the choices
  pub reach_within : (tuple : List ℕ) (steps : List Elimination) → IsSoundFrom P H conjuncts tuple steps
      → ((p : ℕ) → get_or tuple p 0 ≤ choices_at H p + 1) → (p : ℕ) → get_or (reach_from tuple steps) p 0 ≤ choices_at H p + 1
  reach_within tuple [] sound within = within
  reach_within tuple (step ∷ steps) sound within =
      let to = to_within P H conjuncts tuple step sound.0 step.cause sound.0.caused in
      reach_within (eliminated tuple step) steps sound.1
      (λ q. set_below tuple step.pid.0 step.to q (choices_at H q + 1)
      (λ same. subst (λ (x : ℕ). step.to ≤ choices_at H x + 1) (sym same) to) (within q))

-- the tuple keeps its number of components
pub reach_size : (tuple : List ℕ) (steps : List Elimination) → length (reach_from tuple steps) ≡ length tuple
reach_size tuple [] = refl
reach_size tuple (step ∷ steps) = reach_size (eliminated tuple step) steps ∙ length-set tuple step.pid.0 step.to

-- each step raises the sum of the tuple
pub reach_sum : (P : Program) (H : History) (conjuncts : List Conjunct) (tuple : List ℕ) (steps : List Elimination)
    → IsSoundFrom P H conjuncts tuple steps → length tuple ≡ length H → length steps + sum tuple ≤ sum (reach_from tuple steps)
reach_sum P H conjuncts tuple [] sound size = omega arith
reach_sum P H conjuncts tuple (step ∷ steps) sound size =
    let next = eliminated tuple step in
    let rest : length steps + sum next ≤ sum (reach_from next steps) =
    reach_sum P H conjuncts next steps sound.1 (length-set tuple step.pid.0 step.to ∙ size) in
    let here = sound.0.here in
    let from = sound.0.from in
    let more = to_more P H conjuncts tuple step sound.0 step.cause sound.0.caused in
    let change : sum next + get_or tuple step.pid.0 0 ≡ sum tuple + step.to =
    sum_by-set (λ x. x) tuple step.pid.0 step.to 0 (omega arith) in
    omega arith

pub most_sum : (tuple : List ℕ) (H : History) → length tuple ≡ length H → ((p : ℕ) → get_or tuple p 0 ≤ choices_at H p + 1)
    → sum tuple ≤ most_steps H
most_sum [] [] size within = omega arith
most_sum [] (choices ∷ H) size within = omega arith
most_sum (n ∷ tuple) [] size within = absurd (omega (arith, size))
most_sum (n ∷ tuple) (choices ∷ H) size within =
    let first : n ≤ length choices + 1 = within 0 in
    let rest : sum tuple ≤ most_steps H = most_sum tuple H (omega (arith, size)) (λ p. within (suc p)) in
    let counted : sum (n ∷ tuple) ≡ n + sum tuple = sum_by-cons (λ x. x) n tuple in
    let most : most_steps (choices ∷ H) ≡ length choices + 1 + most_steps H =
    sum_by-cons (λ x. x) (length choices + 1) (map (λ (line : List ℕ). length line + 1) H) in
    omega arith

module _ (P : Program) (H : History) (conjuncts : List Conjunct) (steps : List Elimination) (sound : IsSound P H conjuncts steps) where
  size : length (reach H steps) ≡ length H
  size = reach_size (zeros H) steps ∙ length-replicate (length H) 0

  -- each component is at most one more than the choices
  pub within_reach : (p : ℕ) → get_or (reach H steps) p 0 ≤ choices_at H p + 1
  within_reach =
      reach_within P H conjuncts (zeros H) steps sound (λ p. (let none = none_at (length H) p in omega (arith, none)))

  -- a sound list has at most as many steps as there are choices and processes
  pub few_steps : length steps ≤ most_steps H
  few_steps =
      let raised = reach_sum P H conjuncts (zeros H) steps sound (length-replicate (length H) 0) in
      let most = most_sum (reach H steps) H size within_reach in
      omega (arith, raised, most)

  -- every satisfying cut is at least the tuple that the list reaches
  pub sound_above : (cut : List ℕ) → Satisfies P H conjuncts cut → IsAtMost (reach H steps) cut
  sound_above cut satisfies =
      stays_above P H conjuncts (zeros H) steps cut sound satisfies (λ p. (let none = none_at (length H) p in omega (arith, none)))

  -- if a component of it is past, no cut satisfies the conjuncts
  pub no_cut : (p : ℕ) → choices_at H p < get_or (reach H steps) p 0 → NoCut P H conjuncts
  no_cut p past cut satisfies =
      let above = sound_above cut satisfies p in
      let few = satisfies.consistent.within p in
      absurd (omega (arith, above, few))

  module _ (settled : IsSettled P H conjuncts (reach H steps))
      (clocks : HasClocks P H) where
    -- the tuple that a sound list reaches is the frontier if nothing is left to rule out
    pub is_frontier : IsFrontier P H conjuncts (reach H steps)
    is_frontier = record {
      settled = settled;
      least = λ other is.
          stays_settled P H conjuncts (zeros H) steps other sound is clocks
          (λ p. (let none = none_at (length H) p in omega (arith, none)));
    }

    abbrev tuple : List ℕ
    tuple = reach H steps

    caused : ((p : ℕ) → get_or tuple p 0 ≤ choices_at H p)
        → (i j : ℕ) → i ≢ j → got P H j i (get_or tuple j 0) ≤ sent P H i j (get_or tuple i 0)
    caused few i j apart =
        let few_there = few j in
        ⊎_elim
        (λ (here : j < length H).
        let own = clocks j (get_or tuple j 0) here few_there in
        let least : min (get_or tuple j 0) (choices_at H j) ≡ get_or tuple j 0 = omega arith in
        let below = settled.clocks j own.0 here
        (subst (λ (n : ℕ). IsClock P H j n own.0) (sym least) own.1) i in
        let received = own.1.consistent.causes i j apart in
        let gets = count_grows (receives_from P j i) (get_or H j []) (get_or tuple j 0) (get_or own.0 j 0) own.1.reaches in
        let sends = count_grows (sends_to P i j) (get_or H i []) (get_or own.0 i 0) (get_or tuple i 0) below in
        omega (arith, received, gets, sends))
        (λ (past : length H ≤ j).
        let none : get_or tuple j 0 ≡ 0 = omega (arith, get_or_past tuple j 0 (omega (arith, size))) in
        let nothing : got P H j i (get_or tuple j 0) ≡ 0 = ap (λ (n : ℕ). got P H j i n) none in
        omega (arith, nothing))
        (cases_lt j (length H))

    -- if in addition no component of it is past, it is the least cut
    pub is_least : ((p : ℕ) → get_or (reach H steps) p 0 ≤ choices_at H p) → IsLeast P H conjuncts (reach H steps)
    is_least few = record {
      satisfies = record {
        consistent = record { sizes = size; within = few; causes = caused few };
        all = all_implied
            (λ conjunct. get_or tuple conjunct.process 0 ≤ choices_at H conjunct.process
            → is_true P H conjunct (get_or tuple conjunct.process 0) ≡ true)
            (λ conjunct. is_true P H conjunct (get_or tuple conjunct.process 0) ≡ true)
            (λ conjunct holds. holds (few conjunct.process)) conjuncts settled.all;
      };
      least = sound_above;
    }
