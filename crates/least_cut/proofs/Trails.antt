-- Eliminations one after the other, and the same in a world with more or fewer events.
use Rattle.std.proofs.Common.{◌≡◌, ◌≢◌, ℕ, zero, suc, ◌⊎◌, ◌<◌, ◌≤◌, min, false, List, [], ◌∷◌, ◌++◌, length, get_or, set}
use Rattle.std.proofs.Common.{refl, sym, ap, ◌∙◌, subst}
use Rattle.std.proofs.Common.{⊎_elim, inl, inr, arith}
use Rattle.std.proofs.lemmas.Bool.{cases_eq}
use Rattle.std.proofs.lemmas.List.{get_or-set_same, get_or-set_other, length-set}
use Rattle.dbg_base.specs.declared.elimination.Elimination.{Elimination}
use Rattle.dbg_base.specs.declared.elimination.Cause.{Cause}
use Rattle.dbg_base.specs.declared.elimination.Cause.TheVariants.{FalseAt, Passed}
use Rattle.dbg_base.specs.Cuts.{IsAtMost}
use Rattle.dbg_base.specs.SystemStates.{place_at}
use Rattle.dbg_base.specs.Eliminations.{eliminated, reach_from}
use Rattle.causal_world.specs.Scenes.{Scene}
use Rattle.causal_world.specs.Pasts.{row_at}
use Rattle.least_cut.specs.Watches.{TruthLine}
use Rattle.least_cut.specs.Searches.{is_false_in, IsDue, IsStep, IsTrailFrom, IsSettledAt}
use Rattle.least_cut.specs.Detectors.{IsLimit}

pub reach_push : (tuple : List ℕ) (steps : List Elimination) (step : Elimination)
    → reach_from tuple (steps ++ step ∷ []) ≡ eliminated (reach_from tuple steps) step
reach_push tuple [] step = refl
reach_push tuple (first ∷ steps) step = reach_push (eliminated tuple first) steps step

-- a component that is set to at least its value
pub raised : (tuple : List ℕ) (p n : ℕ) → get_or tuple p 0 ≤ n → IsAtMost tuple (set tuple p n)
raised tuple p n le q =
    ⊎_elim
    (λ (same : p ≡ q). subst (λ (x : ℕ). get_or tuple x 0 ≤ get_or (set tuple p n) x 0) same (own tuple p n le))
    (λ (apart : p ≢ q). let e = get_or-set_other tuple p q n 0 (λ x. apart (sym x)) in omega (arith, e))
    (cases_eq p q)
  where
    own : (tuple : List ℕ) (p n : ℕ) → get_or tuple p 0 ≤ n → get_or tuple p 0 ≤ get_or (set tuple p n) p 0
    own [] p n le = omega arith
    own (m ∷ tuple) zero n le = le
    own (m ∷ tuple) (suc p) n le = own tuple p n le

module _ (w : Scene) (lines : List TruthLine) where
  pub trail_push : (tuple : List ℕ) (steps : List Elimination) (step : Elimination) → IsTrailFrom w lines tuple steps
      → IsStep w lines (reach_from tuple steps) step → IsTrailFrom w lines tuple (steps ++ step ∷ [])
  trail_push tuple [] step trail is = (is, tt)
  trail_push tuple (first ∷ steps) step trail is = (trail.0, trail_push (eliminated tuple first) steps step trail.1 is)

  due_more : (tuple : List ℕ) (p from to : ℕ) (cause : Cause) → IsDue w lines tuple p from to cause → from < to
  due_more tuple p from to FalseAt due = omega (arith, due.1)
  due_more tuple p from to (Passed q n) due = due.4

  -- an elimination raises its component
  pub step_more : (tuple : List ℕ) (step : Elimination) → IsStep w lines tuple step → step.from < step.to
  step_more tuple step is = due_more tuple step.pid.0 step.from step.to step.cause is.due

  pub step_raises : (tuple : List ℕ) (step : Elimination) → IsStep w lines tuple step → IsAtMost tuple (eliminated tuple step)
  step_raises tuple step is = raised tuple step.pid.0 step.to (omega (arith, is.from, step_more tuple step is))

  pub trail_raises : (tuple : List ℕ) (steps : List Elimination) → IsTrailFrom w lines tuple steps → IsAtMost tuple (reach_from tuple steps)
  trail_raises tuple [] trail q = omega arith
  trail_raises tuple (step ∷ steps) trail q =
      let first = step_raises tuple step trail.0 q in
      let rest = trail_raises (eliminated tuple step) steps trail.1 q in
      omega (arith, first, rest)

  -- a process stays settled while its component stays and others are raised
  pub still_settled : (tuple more : List ℕ) (q : ℕ) → IsSettledAt w lines tuple q → IsAtMost tuple more → get_or more q 0 ≡ get_or tuple q 0
      → IsSettledAt w lines more q
  still_settled tuple more q is most same = record {
    truth = subst (λ (n : ℕ). n ≤ place_at w.state q → is_false_in lines q n ≡ false) (sym same) is.truth;
    clock = λ p.
        let first : get_or (row_at w.clocks q (min (get_or tuple q 0) (place_at w.state q))) p 0 ≤ get_or tuple p 0 = is.clock p in
        let rest : get_or tuple p 0 ≤ get_or more p 0 = most p in
        subst (λ (n : ℕ). get_or (row_at w.clocks q (min n (place_at w.state q))) p 0 ≤ get_or more p 0) (sym same) (omega arith);
  }

-- The local states that exist in both worlds have the same truths and clocks.
pub record Agree (v w : Scene) (before after : List TruthLine) : Type 0 where
  pub processes : length v.state.places ≡ length w.state.places
  pub truths : (p n : ℕ) → n ≤ place_at v.state p → n ≤ place_at w.state p → is_false_in after p n ≡ is_false_in before p n
  pub rows : (p n : ℕ) → p < length w.state.places → n ≤ place_at v.state p → n ≤ place_at w.state p
      → row_at w.clocks p n ≡ row_at v.clocks p n

module _ (v w : Scene) (before after : List TruthLine) (agree : Agree v w before after) where
  due_moved : (tuple : List ℕ) (p from to : ℕ) (cause : Cause) → IsDue v before tuple p from to cause → from ≤ place_at v.state p
      → from ≤ place_at w.state p
      → ((q : ℕ) → (get_or tuple q 0 ≤ place_at w.state q) ⊎ (place_at v.state q ≤ place_at w.state q))
      → IsDue w after tuple p from to cause
  due_moved tuple p from to FalseAt due old new kept = (agree.truths p from old new ∙ due.0, due.1)
  due_moved tuple p from to (Passed q n) due old new kept =
      let there : q.0 < length w.state.places = (let here = due.0 in omega (arith, here, agree.processes)) in
      let component = due.1 in
      let event = due.2 in
      let inside : n ≤ place_at w.state q.0 =
      ⊎_elim
      (λ (le : get_or tuple q.0 0 ≤ place_at w.state q.0). let x : n ≤ place_at w.state q.0 = omega (arith, component, le) in x)
      (λ (le : place_at v.state q.0 ≤ place_at w.state q.0). let x : n ≤ place_at w.state q.0 = omega (arith, event, le) in x)
      (kept q.0) in
      (there, component, inside, ap (λ (row : List ℕ). get_or row p 0) (agree.rows q.0 n there event inside) ∙ due.3, due.4)

  -- eliminations that lead to local states which still exist are justified in the other world
  pub trail_moved : (tuple : List ℕ) (steps : List Elimination) → IsTrailFrom v before tuple steps
      → length tuple ≡ length v.state.places
      → ((q : ℕ) → IsLimit v w q (get_or (reach_from tuple steps) q 0)) → IsTrailFrom w after tuple steps
  trail_moved tuple [] trail size limit = tt
  trail_moved tuple (step ∷ steps) trail size limit =
      let is = trail.0 in
      let p = step.pid.0 in
      let next = eliminated tuple step in
      let raises = trail_raises v before next steps trail.1 in
      let first = step_raises v before tuple step is in
      let old : step.from ≤ place_at v.state p = is.within in
      let new : step.from ≤ place_at w.state p =
      (let own = raises p in
      let most = (limit p).most in
      let to : get_or next p 0 ≡ step.to = get_or-set_same tuple p step.to 0 (omega (arith, is.here, size)) in
      omega (arith, own, most, to, step_more v before tuple step is)) in
      let kept : (q : ℕ) → (get_or tuple q 0 ≤ place_at w.state q) ⊎ (place_at v.state q ≤ place_at w.state q) =
      λ q. ⊎_elim
      (λ (le : get_or (reach_from tuple (step ∷ steps)) q 0 ≤ place_at w.state q).
      let a = first q in let b = raises q in inl (omega (arith, le, a, b)))
      (λ (le : place_at v.state q ≤ place_at w.state q). inr le)
      (limit q).kept in (
        record {
          here = omega (arith, is.here, agree.processes);
          from = is.from;
          within = new;
          due = due_moved tuple p step.from step.to step.cause is.due old new kept;
        },
        trail_moved next steps trail.1 (length-set tuple p step.to ∙ size) limit,
      )

  -- and a process stays settled if its component, or its last event if that comes first, is the same in both worlds
  pub settled_moved : (tuple : List ℕ) (q : ℕ) → IsSettledAt v before tuple q → q < length w.state.places
      → min (get_or tuple q 0) (place_at v.state q) ≡ min (get_or tuple q 0) (place_at w.state q)
      → (get_or tuple q 0 ≤ place_at w.state q → get_or tuple q 0 ≤ place_at v.state q) → IsSettledAt w after tuple q
  settled_moved tuple q is here same back = record {
    truth = λ le. agree.truths q (get_or tuple q 0) (back le) le ∙ is.truth (back le);
    clock = λ p.
        let n = min (get_or tuple q 0) (place_at w.state q) in
        let row : row_at w.clocks q n ≡ row_at v.clocks q n = agree.rows q n here (omega (arith, same)) (omega arith) in
        let le : get_or (row_at v.clocks q n) p 0 ≤ get_or tuple p 0 =
        subst (λ (m : ℕ). get_or (row_at v.clocks q m) p 0 ≤ get_or tuple p 0) same (is.clock p) in
        subst (λ (r : List ℕ). get_or r p 0 ≤ get_or tuple p 0) (sym row) le;
  }
