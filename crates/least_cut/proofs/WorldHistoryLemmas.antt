-- What is kept of a world, in terms of its program and its history.
use Rattle.std.proofs.Common.{◌≡◌, ◌≢◌, ℕ, suc, ◌+◌, ◌<◌, ◌≤◌, min, Bool, true, false, not, ◌&&◌, ◌||◌, ◌==◌, List, [], ◌∷◌, length}
use Rattle.std.proofs.Common.{get_or, map, replicate, refl, sym, ap, ◌∙◌, subst, ⊎_elim, arith}
use Rattle.std.specs.List.{AllByRecursion}
use Rattle.std.proofs.lemmas.Bool.{eq-eqb}
use Rattle.std.proofs.lemmas.Bool.Decides.{eqb_tells}
use Rattle.std.proofs.lemmas.List.Sums.{sum_by-cons}
use Rattle.dbg_base.specs.declared.elimination.Elimination.{Elimination}
use Rattle.dbg_base.specs.declared.elimination.Cause.{Cause}
use Rattle.dbg_base.specs.declared.elimination.Cause.TheVariants.{FalseAt, Passed}
use Rattle.dbg_base.specs.Trees.{Program}
use Rattle.dbg_base.specs.LocalStates.{no_state}
use Rattle.dbg_base.specs.Histories.{History}
use Rattle.dbg_base.specs.SystemStates.{place_at, history_of}
use Rattle.dbg_base.specs.Clocks.{IsClock}
use Rattle.dbg_base.specs.Predicates.{Conjunct, holds, is_true}
use Rattle.dbg_base.specs.Frontiers.{choices_at, IsSettled}
use Rattle.dbg_base.specs.Eliminations.{is_ruled_out, IsCaused, eliminated, IsSoundFrom, zeros, most_steps}
use Rattle.dbg_base.proofs.EliminationLemmas.{HasClocks}
use Rattle.causal_world.specs.Scenes.{Scene, IsWorldOf}
use Rattle.causal_world.specs.Pasts.{row_at}
use Rattle.dbg_laws.proofs.LineStates.{length_cut}
use Rattle.causal_world.proofs.WorldCallLemmas.{row_is_clock, same_part}
use Rattle.causal_world.proofs.SameWorldLemmas.{remembered, events_numbered}
use Rattle.causal_world.proofs.RollbackLemmas.{choices_counted}
use Rattle.least_cut.specs.Watches.{TruthLine, truth_line, scan_of}
use Rattle.least_cut.specs.Searches.{is_false_in, IsDue, IsTrailFrom, none_of, IsSettledAt, steps_up_to}
use Rattle.least_cut.proofs.Truths.{truth_there, length_truths}

-- Lists.

pub same_there : (x y : ℕ) (a b : Bool) → (x ≡ y → a ≡ b) → ((x == y) && not a) ≡ ((x == y) && not b)
same_there x y a b same =
    ⊎_elim
    (λ (here : ((x == y) ≡ true) × (x ≡ y)). ap (λ (c : Bool). (x == y) && not c) (same here.1))
    (λ (apart : ((x == y) ≡ false) × (x ≢ y)).
    ap (λ (c : Bool). c && not a) apart.0 ∙ sym (ap (λ (c : Bool). c && not b) apart.0))
    (eqb_tells x y)

-- if `a || b` is false, both are false
pub neither : (a b : Bool) → (a || b) ≡ false → (a ≡ false) × (b ≡ false)
neither true b e = cc
neither false b e = (refl, e)

true_where : (a b : Bool) → a ≡ true → (a && not b) ≡ false → b ≡ true
true_where true true is none = refl
true_where true false is none = cc
true_where false b is none = cc

steps_same : (H : History) (places : List ℕ) → length H ≡ length places → ((p : ℕ) → choices_at H p ≡ get_or places p 0)
    → steps_up_to places ≡ most_steps H
steps_same [] [] size same = refl
steps_same [] (n ∷ places) size same = absurd (omega (arith, size))
steps_same (choices ∷ H) [] size same = absurd (omega (arith, size))
steps_same (choices ∷ H) (n ∷ places) size same =
    let first : length choices ≡ n = same 0 in
    let rest : steps_up_to places ≡ most_steps H = steps_same H places (omega (arith, size)) (λ p. same (suc p)) in
    let one : steps_up_to (n ∷ places) ≡ n + 1 + steps_up_to places =
    sum_by-cons (λ x. x) (n + 1) (map (λ (place : ℕ). place + 1) places) in
    let other : most_steps (choices ∷ H) ≡ length choices + 1 + most_steps H =
    sum_by-cons (λ x. x) (length choices + 1) (map (λ (line : List ℕ). length line + 1) H) in
    omega arith

-- The world of a program.

-- the process of the conjunct exists
abbrev pub IsHere : Scene → Conjunct → Type 0
IsHere w conjunct = conjunct.process < length w.state.places

module _ (P : Program) (w : Scene) (of : IsWorldOf P w) where
  abbrev H : History
  H = history_of w.state

  -- the same number of processes
  pub processes_counted : length H ≡ length w.state.places
  processes_counted = length_cut w.state.lines w.state.places ∙ of.state.lines ∙ sym of.state.places

  -- the place of a process is its number of choices
  pub choices_placed : (p : ℕ) → choices_at H p ≡ place_at w.state p
  choices_placed p = choices_counted P w p of

  -- the search begins with the same tuple
  pub same_start : none_of w ≡ zeros H
  same_start = ap (λ (n : ℕ). replicate n 0) (sym processes_counted)

  -- and takes at most the same number of steps
  pub same_steps : steps_up_to w.state.places ≡ most_steps H
  same_steps = steps_same H w.state.places processes_counted choices_placed

  -- each existing local state has a clock
  pub has_clocks : HasClocks P H
  has_clocks q n here le = (
    row_at w.clocks q n,
    row_is_clock P w q n of (omega (arith, here, processes_counted)) (omega (arith, le, choices_placed q)),
  )

  there : (p : ℕ) → p < length w.state.places → p < length P
  there p here = omega (arith, here, of.state.places)

  -- the truths of a conjunct say where it is true
  pub truths : (conjunct : Conjunct) (n : ℕ) (d : Bool) → IsHere w conjunct → n ≤ place_at w.state conjunct.process
      → get_or (truth_line w conjunct).truths n d ≡ is_true P H conjunct n
  truths conjunct n d here le =
      let p = conjunct.process in
      truth_there conjunct.expression (get_or w.starts p no_state) (get_or w.events p []) n d
      (omega (arith, le, events_numbered P w p of (there p here)))
      ∙ ap (holds conjunct.expression) (sym (remembered P w p n of (there p here) le))

  -- there is one more truth than the place of its process
  pub truths_placed : (conjunct : Conjunct) → IsHere w conjunct
      → length (truth_line w conjunct).truths ≡ place_at w.state conjunct.process + 1
  truths_placed conjunct here =
      let p = conjunct.process in
      length_truths conjunct.expression (get_or w.starts p no_state) (get_or w.events p [])
      ∙ ap (λ (n : ℕ). n + 1) (events_numbered P w p of (there p here))

  -- a component is ruled out exactly if a conjunct of its process is false
  pub ruled_same : (p n : ℕ) (conjuncts : List Conjunct) → AllByRecursion (IsHere w) conjuncts → n ≤ place_at w.state p
      → is_false_in (scan_of w conjuncts) p n ≡ is_ruled_out P H conjuncts p n
  ruled_same p n [] here le = refl
  ruled_same p n (conjunct ∷ conjuncts) here le =
      let first : ((conjunct.process == p) && not (get_or (truth_line w conjunct).truths n true))
      ≡ ((conjunct.process == p) && not (is_true P H conjunct n)) =
      same_there conjunct.process p (get_or (truth_line w conjunct).truths n true) (is_true P H conjunct n)
      (λ same. truths conjunct n true here.0 (subst (λ (x : ℕ). n ≤ place_at w.state x) (sym same) le)) in
      let rest : is_false_in (scan_of w conjuncts) p n ≡ is_ruled_out P H conjuncts p n = ruled_same p n conjuncts here.1 le in
      cc

  module _ (conjuncts : List Conjunct) (here : AllByRecursion (IsHere w) conjuncts) where
    abbrev lines : List TruthLine
    lines = scan_of w conjuncts

    -- the cause of a step
    due_caused : (tuple : List ℕ) (p from to : ℕ) (cause : Cause) → from ≤ place_at w.state p → IsDue w lines tuple p from to cause
        → IsCaused P H conjuncts tuple p from to cause
    due_caused tuple p from to FalseAt within due = (sym (ruled_same p from conjuncts here within) ∙ due.0, due.1)
    due_caused tuple p from to (Passed q n) within due = (
      omega (arith, due.0, processes_counted),
      due.1,
      omega (arith, due.2, choices_placed q.0),
      record { clock = row_at w.clocks q.0 n; is = row_is_clock P w q.0 n of due.0 due.2; part = due.3 },
      due.4,
    )

    caused_due : (tuple : List ℕ) (p from to : ℕ) (cause : Cause) → from ≤ place_at w.state p
        → IsCaused P H conjuncts tuple p from to cause → IsDue w lines tuple p from to cause
    caused_due tuple p from to FalseAt within caused = (ruled_same p from conjuncts here within ∙ caused.0, caused.1)
    caused_due tuple p from to (Passed q n) within caused =
        let q_here : q.0 < length w.state.places = omega (arith, caused.0, processes_counted) in
        let has : n ≤ place_at w.state q.0 = omega (arith, caused.2, choices_placed q.0) in
        let part = caused.3 in (
          q_here,
          caused.1,
          has,
          same_part P H q.0 n p (row_at w.clocks q.0 n) part.clock (row_is_clock P w q.0 n of q_here has) part.is ∙ part.part,
          caused.4,
        )

    -- a trail is a sound list of eliminations
    pub trail_sound : (tuple : List ℕ) (steps : List Elimination) → IsTrailFrom w lines tuple steps
        → IsSoundFrom P H conjuncts tuple steps
    trail_sound tuple [] trail = tt
    trail_sound tuple (step ∷ steps) trail =
        let s = trail.0 in
        let p = step.pid.0 in (
          record {
            here = (let is = s.here in omega (arith, is, processes_counted));
            from = s.from;
            within = (let is = s.within in omega (arith, is, choices_placed p));
            caused = due_caused tuple p step.from step.to step.cause s.within s.due;
          },
          trail_sound (eliminated tuple step) steps trail.1,
        )

    -- and conversely
    pub sound_trail : (tuple : List ℕ) (steps : List Elimination) → IsSoundFrom P H conjuncts tuple steps
        → IsTrailFrom w lines tuple steps
    sound_trail tuple [] sound = tt
    sound_trail tuple (step ∷ steps) sound =
        let s = sound.0 in
        let p = step.pid.0 in
        let within : step.from ≤ place_at w.state p = (let is = s.within in omega (arith, is, choices_placed p)) in (
          record {
            here = (let is = s.here in omega (arith, is, processes_counted));
            from = s.from;
            within = within;
            due = caused_due tuple p step.from step.to step.cause within s.caused;
          },
          sound_trail (eliminated tuple step) steps sound.1,
        )

    -- no conjunct of a process that is not past is false
    all_true : (tuple : List ℕ) (all : List Conjunct) → AllByRecursion (IsHere w) all
        → ((p : ℕ) → p < length w.state.places → get_or tuple p 0 ≤ place_at w.state p
        → is_false_in (scan_of w all) p (get_or tuple p 0) ≡ false)
        → AllByRecursion (λ conjunct. get_or tuple conjunct.process 0 ≤ choices_at H conjunct.process
        → is_true P H conjunct (get_or tuple conjunct.process 0) ≡ true) all
    all_true tuple [] all_here none = tt
    all_true tuple (conjunct ∷ all) all_here none =
        let rest = λ (p : ℕ) (is : p < length w.state.places) (le : get_or tuple p 0 ≤ place_at w.state p).
        (neither ((conjunct.process == p) && not (get_or (truth_line w conjunct).truths (get_or tuple p 0) true))
        (is_false_in (scan_of w all) p (get_or tuple p 0)) (none p is le)).1 in (
          λ few.
              let p = conjunct.process in
              let n : ℕ = get_or tuple p 0 in
              let le : n ≤ place_at w.state p = omega (arith, few, choices_placed p) in
              sym (truths conjunct n true all_here.0 le)
              ∙ true_where (p == p) (get_or (truth_line w conjunct).truths n true) (eq-eqb p p refl)
              (neither ((p == p) && not (get_or (truth_line w conjunct).truths n true))
              (is_false_in (scan_of w all) p n) (none p all_here.0 le)).0,
          all_true tuple all all_here.1 rest,
        )

    -- if nothing is left to rule out in the world, nothing is in its history
    pub settled_all : (tuple : List ℕ) → length tuple ≡ length H → ((p : ℕ) → get_or tuple p 0 ≤ choices_at H p + 1)
        → ((q : ℕ) → q < length w.state.places → IsSettledAt w lines tuple q) → IsSettled P H conjuncts tuple
    settled_all tuple size within settled = record {
      sizes = size;
      within = within;
      all = all_true tuple conjuncts here (λ p is. (settled p is).truth);
      clocks = λ q cut lt is p.
          let q_here : q < length w.state.places = omega (arith, lt, processes_counted) in
          let n : ℕ = min (get_or tuple q 0) (place_at w.state q) in
          let at_place : IsClock P H q n cut =
          subst (λ (x : ℕ). IsClock P H q (min (get_or tuple q 0) x) cut) (choices_placed q) is in
          let below = (settled q q_here).clock p in
          let same = same_part P H q n p (row_at w.clocks q n) cut (row_is_clock P w q n of q_here (omega arith)) at_place in
          omega (arith, below, same);
    }
