-- Each command has exactly one reply and one state after it. The theory of cuts decides and determines what a definition leaves open: which
-- breakpoint halts, and to which cut events are undone.
use Rattle.std.proofs.Common.{◌≡◌, ◌⊎◌, inl, inr, ⊎_elim, ℕ, zero, suc, ◌+◌, ◌-◌, ◌<◌, Bool, true, false, List, [], ◌∷◌, ◌++◌, length}
use Rattle.std.proofs.Common.{get_or, take, Option, Some, None, Result, Ok, Err, refl, sym, ap, ◌∙◌, subst, arith, MatchBool}
use Rattle.std.specs.Prelude.{nat_lt}
use Rattle.std.proofs.lemmas.Bool.{ltb-true}
use Rattle.std.proofs.lemmas.List.{length-take-le, get_or-take}
use Rattle.std.proofs.lemmas.Option.{slice_get-get_or}
use Rattle.dbg_base.specs.declared.said.Said.{Said}
use Rattle.dbg_base.specs.declared.said.Said.TheVariants.{Accepted, Refused}
use Rattle.dbg_base.specs.declared.said.Reply.{Reply}
use Rattle.dbg_base.specs.declared.said.Done.{Done}
use Rattle.dbg_base.specs.declared.said.Done.TheVariants.{Played, Undone, Places, Plain}
use Rattle.dbg_base.specs.declared.refusal.Refusal.{Refusal}
use Rattle.dbg_base.specs.declared.refusal.Refusal.TheVariants.{UnknownProcess, BadPlace, Halted, UnknownBreak, AlreadyArmed, NotArmed}
use Rattle.dbg_base.specs.declared.refusal.Refusal.TheVariants.{NothingToUndo, Consequence, InBatch}
use Rattle.dbg_base.specs.declared.refusal.Refusal.TheVariants as refusals
use Rattle.dbg_base.specs.Trees.{Program, command_of}
use Rattle.dbg_base.specs.Histories.{History, IsPossible, progress_of}
use Rattle.dbg_base.specs.Orders.{target_in}
use Rattle.dbg_base.specs.Predicates.{Conjunct, IsLeast, NoCut}
use Rattle.dbg_base.specs.Reversal.{MayUndo, IsRollback, without_last}
use Rattle.dbg_base.specs.Reversal as reversal
use Rattle.dbg_base.specs.SystemStates.{SystemState, IsStateOf, line_of, place_at, history_of, choice_before, last_choice, after_undo}
use Rattle.dbg_base.specs.SystemStates.{after_choice, after_redo, after_rollback}
use Rattle.dbg_base.specs.Breakpoints.{Breakpoint, HasCut, IsHaltedBy, named, without, with_mark}
use Rattle.dbg_base.specs.ModelStates.{ModelState, with_system, IsHalted}
use Rattle.dbg_base.specs.Choices.{CannotUndo, IsNeeded, last_target, step_choice, next_choice, redo_choice}
use Rattle.dbg_base.specs.Calls.{Plan, Step, Next, Undo, Redo, Rollback, Goto, Break, Clear, Arm, Pass, Order, One, Batch}
use Rattle.dbg_base.specs.Acts.{Refuses, Accepts, Plays, UnlessHalted, TakesBack, KeepsEvent, RollsBack, RollsBackAt, WithProcess, WithFound}
use Rattle.dbg_base.specs.Acts.{GoesTo, HasNone, Lists, Sets, break_refusal, Arms, Passes, Acts, Batches, Follows}
use Rattle.dbg_base.specs.Refusals.{refusal_number}
use Rattle.dbg_laws.specs.Outcomes.{HasOne}
use Rattle.dbg_laws.proofs.ReachedStateLemmas.{IsReached, acts_keep}
use Rattle.dbg_laws.proofs.CutDecisionLemmas.{Known, known_all}
use Rattle.dbg_laws.proofs.CutLatticeLemmas.{least_or_none, some_rollback, one_rollback, one_least}
use Rattle.dbg_laws.proofs.LineStates.{cut_at}
use Rattle.dbg_laws.proofs.UndoLemmas.{undone, with_without, within_without}

-- Refusals, and commands that were accepted.

refuses_one : (refusal : Refusal) (M : ModelState) → HasOne (Refuses refusal M)
refuses_one refusal M = record { said = Refused refusal; left = M; is = (refl, refl); only = λ other after is. is }

-- the breakpoint that halts, or none
pub record HasHalt (P : Program) (H : History) (breakpoints : List Breakpoint) : Type 0 where
  pub halted : Option (List ℕ)
  pub is : IsHaltedBy P H breakpoints halted
  pub only : (other : Option (List ℕ)) → IsHaltedBy P H breakpoints other → other ≡ halted

some_same : {A : Type 0} (x y : A) → x ≡ y → Some x ≡ Some y
some_same x y e = ap (λ (z : _). Some z) e

one_halt : (P : Program) (H : History) (breakpoints : List Breakpoint) → HasHalt P H breakpoints
one_halt P H [] = record { halted = None; is = refl; only = λ other is. is }
one_halt P H (b ∷ breakpoints) =
    let found = by b.armed (least_or_none P H b.conjuncts) (one_halt P H breakpoints) in
    record { halted = found.0; is = found.1; only = found.2 }
  where
    by : (armed : Bool) → ((cut : List ℕ) × IsLeast P H b.conjuncts cut) ⊎ NoCut P H b.conjuncts → HasHalt P H breakpoints
        → (halted : Option (List ℕ))
        × MatchBool armed ((HasCut P H b × (halted ≡ Some b.name)) ⊎ (NoCut P H b.conjuncts × IsHaltedBy P H breakpoints halted))
        (IsHaltedBy P H breakpoints halted)
        × ((other : Option (List ℕ))
        → MatchBool armed ((HasCut P H b × (other ≡ Some b.name)) ⊎ (NoCut P H b.conjuncts × IsHaltedBy P H breakpoints other))
        (IsHaltedBy P H breakpoints other) → other ≡ halted)
    by false cut rest = (rest.halted, rest.is, rest.only)
    by true (inl cut) rest = (
      Some b.name,
      inl (cut, refl),
      λ other is.
          ⊎_elim (λ (has : HasCut P H b × (other ≡ Some b.name)). has.1)
          (λ (none : NoCut P H b.conjuncts × IsHaltedBy P H breakpoints other). absurd (none.0 cut.0 cut.1.satisfies)) is,
    )
    by true (inr none) rest = (
      rest.halted,
      inr (none, rest.is),
      λ other is.
          ⊎_elim (λ (has : HasCut P H b × (other ≡ Some b.name)). absurd (none has.0.0 has.0.1.satisfies))
          (λ (no_cut : NoCut P H b.conjuncts × IsHaltedBy P H breakpoints other). rest.only other no_cut.1) is,
    )

halts_one : (P : Program) (M : ModelState) → HasHalt P (history_of M.system) M.breakpoints
halts_one P M = one_halt P (history_of M.system) M.breakpoints

-- a command was accepted, with this result, and left this state
pub changes_one : (P : Program) (done : Done) (N : ModelState) → HasOne (λ said after. Accepts P done said after × (after ≡ N))
changes_one P done N =
    let halt = halts_one P N in
    record {
      said = Accepted (record { done = done; halted = halt.halted });
      left = N;
      is = (record { halted = halt.halted; is = halt.is; reported = refl }, refl);
      only = λ other after is. (
        is.0.reported
            ∙ ap (λ (h : Option (List ℕ)). Accepted (record { done = done; halted = h }))
            (halt.only is.0.halted (subst (λ (K : ModelState). IsHalted P K is.0.halted) is.1 is.0.is)),
        is.1,
      );
    }

-- Combining definitions.

match_one : (b : Bool) (A B : Said → ModelState → Type 0) → (b ≡ true → HasOne A) → (b ≡ false → HasOne B)
    → HasOne (λ said after. MatchBool b (A said after) (B said after))
match_one true A B first second = first refl
match_one false A B first second = second refl

found_one : (o : Option Breakpoint) (Does : Breakpoint → Said → ModelState → Type 0) (M : ModelState)
    → ((b : Breakpoint) → o ≡ Some b → HasOne (Does b))
    → HasOne (λ said after. WithFound o (λ b. Does b said after) M said after)
found_one None Does M does = refuses_one UnknownBreak M
found_one (Some b) Does M does = does b refl

process_one : (P : Program) (p : ℕ) (Does : Said → ModelState → Type 0) (M : ModelState) → (p < length P → HasOne Does)
    → HasOne (λ said after. WithProcess P p (Does said after) M said after)
process_one P p Does M does =
    match_one (nat_lt p (length P)) Does (Refuses UnknownProcess M) (λ here. does (ltb-true p (length P) here))
    (λ none. refuses_one UnknownProcess M)

unhalted_one : (P : Program) (Does : Said → ModelState → Type 0) (M : ModelState) → HasOne Does
    → HasOne (λ said after. UnlessHalted P (Does said after) M said after)
unhalted_one P Does M does = by (halts_one P M).halted (halts_one P M).is (halts_one P M).only
  where
    by : (halted : Option (List ℕ)) → IsHalted P M halted → ((other : Option (List ℕ)) → IsHalted P M other → other ≡ halted)
        → HasOne (λ said after. UnlessHalted P (Does said after) M said after)
    by None is only = record {
      said = does.said;
      left = does.left;
      is = inl (is, does.is);
      only = λ other after acts.
          ⊎_elim (λ (goes : IsHalted P M None × Does other after). does.only other after goes.1)
          (λ (halts : (name : List ℕ) × IsHalted P M (Some name) × Refuses (Halted name) M other after).
          let wrong = only (Some halts.0) halts.1 in cc)
          acts;
    }
    by (Some name) is only = record {
      said = Refused (Halted name);
      left = M;
      is = inr (name, is, (refl, refl));
      only = λ other after acts.
          ⊎_elim (λ (goes : IsHalted P M None × Does other after). let wrong = only None goes.0 in cc)
          (λ (halts : (n : List ℕ) × IsHalted P M (Some n) × Refuses (Halted n) M other after).
          let same : Some halts.0 ≡ Some name = only (Some halts.0) halts.1 in
          let named_so : halts.0 ≡ name = cc in
          (halts.2.0 ∙ ap (λ (n : List ℕ). Refused (Halted n)) named_so, halts.2.1))
          acts;
    }

-- The commands.

plays_one : (P : Program) (p : ℕ) (made : Result ℕ Refusal) (after : ℕ → SystemState) (M : ModelState)
    → HasOne (λ said left. Plays P p made after M said left)
plays_one P p (Ok k) after M = changes_one P (Played (record { 0 = p }) (record { 0 = k })) (with_system M (after k))
plays_one P p (Err refusal) after M = refuses_one refusal M

lists_one : (P : Program) (breakpoints : List Breakpoint) (M : ModelState) → HasOne (λ said after. Lists P breakpoints M said after)
lists_one P breakpoints M = changes_one P Plain (record M { breakpoints = breakpoints })

sets_one : (o : Option Refusal) (P : Program) (name : List ℕ) (conjuncts : List Conjunct) (M : ModelState)
    → HasOne (λ said after. Sets o P name conjuncts M said after)
sets_one (Some refusal) P name conjuncts M = refuses_one refusal M
sets_one None P name conjuncts M =
    lists_one P (M.breakpoints ++ record { name = name; conjuncts = conjuncts; armed = true } ∷ []) M

rolls_one : (P : Program) (p n : ℕ) (M : ModelState) → HasOne (λ said after. RollsBack P p n M said after)
rolls_one P p n M =
    let H = history_of M.system in
    let back = some_rollback P H p n in
    let change = changes_one P (Places back.0) (with_system M (after_rollback M.system back.0)) in
    record {
      said = change.said;
      left = change.left;
      is = record { cut = back.0; is = back.1; reported = change.is.0; left = change.is.1 };
      only = λ other after is.
          change.only other after
          (subst (λ (cut : List ℕ). Accepts P (Places cut) other after × (after ≡ with_system M (after_rollback M.system cut)))
          (one_rollback P H p n is.cut back.0 is.is back.1) (is.reported, is.left));
    }

goes_one : (P : Program) (b : Breakpoint) (M : ModelState)
    → HasOne (λ said after. GoesTo P b M said after ⊎ (HasNone P M b × Refuses refusals.NoCut M said after))
goes_one P b M = by (least_or_none P (history_of M.system) b.conjuncts)
  where
    by : ((cut : List ℕ) × IsLeast P (history_of M.system) b.conjuncts cut) ⊎ NoCut P (history_of M.system) b.conjuncts
        → HasOne (λ said after. GoesTo P b M said after ⊎ (HasNone P M b × Refuses refusals.NoCut M said after))
    by (inl found) =
        let change = changes_one P (Places found.0) (with_system M (after_rollback M.system found.0)) in
        record {
          said = change.said;
          left = change.left;
          is = inl (record { cut = found.0; is = found.1; reported = change.is.0; left = change.is.1 });
          only = λ other after acts.
              ⊎_elim
              (λ (goes : GoesTo P b M other after).
              change.only other after
              (subst (λ (cut : List ℕ). Accepts P (Places cut) other after × (after ≡ with_system M (after_rollback M.system cut)))
              (one_least P (history_of M.system) b.conjuncts goes.cut found.0 goes.is found.1) (goes.reported, goes.left)))
              (λ (none : HasNone P M b × Refuses refusals.NoCut M other after). absurd (none.0 found.0 found.1.satisfies)) acts;
        }
    by (inr none) = record {
      said = Refused refusals.NoCut;
      left = M;
      is = inr (none, (refl, refl));
      only = λ other after acts.
          ⊎_elim (λ (goes : GoesTo P b M other after). absurd (none goes.cut goes.is.satisfies))
          (λ (kept : HasNone P M b × Refuses refusals.NoCut M other after). kept.1) acts;
    }

passes_one : (P : Program) (name : List ℕ) (b : Breakpoint) (M : ModelState) → HasOne (λ said after. Passes P name b M said after)
passes_one P name b M =
    match_one b.armed
    (λ said after. (HasCut P (history_of M.system) b × Lists P (with_mark name false M.breakpoints) M said after)
    ⊎ (HasNone P M b × Refuses refusals.NoCut M said after))
    (Refuses NotArmed M) (λ armed. by (least_or_none P (history_of M.system) b.conjuncts)) (λ not_armed. refuses_one NotArmed M)
  where
    by : ((cut : List ℕ) × IsLeast P (history_of M.system) b.conjuncts cut) ⊎ NoCut P (history_of M.system) b.conjuncts
        → HasOne (λ said after. (HasCut P (history_of M.system) b × Lists P (with_mark name false M.breakpoints) M said after)
        ⊎ (HasNone P M b × Refuses refusals.NoCut M said after))
    by (inl found) =
        let change = lists_one P (with_mark name false M.breakpoints) M in
        record {
          said = change.said;
          left = change.left;
          is = inl (found, change.is);
          only = λ other after acts.
              ⊎_elim
              (λ (does : HasCut P (history_of M.system) b × Lists P (with_mark name false M.breakpoints) M other after).
              change.only other after does.1)
              (λ (none : HasNone P M b × Refuses refusals.NoCut M other after). absurd (none.0 found.0 found.1.satisfies)) acts;
        }
    by (inr none) = record {
      said = Refused refusals.NoCut;
      left = M;
      is = inr (none, (refl, refl));
      only = λ other after acts.
          ⊎_elim
          (λ (does : HasCut P (history_of M.system) b × Lists P (with_mark name false M.breakpoints) M other after).
          absurd (none does.0.0 does.0.1.satisfies))
          (λ (kept : HasNone P M b × Refuses refusals.NoCut M other after). kept.1) acts;
    }

-- An event that is undone, or stays.

known_empty : (choices : List ℕ) → Known (choices ≡ [])
known_empty [] = inl refl
known_empty (k ∷ choices) = inr (λ e. cc)

known_possible : (P : Program) (H : History) → Known (IsPossible P H)
known_possible P H = known_all (λ choices. choices ≡ []) known_empty (progress_of P H).unplayed

-- why an event stays, in the two ways that there are
pub cannot_cases : (P : Program) (M : SystemState) (p : ℕ) (refusal : Refusal) → CannotUndo P M p refusal
    → ((refusal ≡ NothingToUndo) × (place_at M p ≡ 0)) ⊎ ((q : ℕ) × (refusal ≡ Consequence (record { 0 = q })) × IsNeeded P M p q)
cannot_cases P M p NothingToUndo none = inl (refl, none)
cannot_cases P M p (Consequence q) needed = inr (q.0, refl, needed)
cannot_cases P M p refusal wrong = absurd wrong

one_target : {A : Type 0} (o : Option A) (x y : A) → o ≡ Some x → o ≡ Some y → x ≡ y
one_target o x y is other = cc

pub one_cannot : (P : Program) (M : SystemState) (p : ℕ) (one other : Refusal) → CannotUndo P M p one → CannotUndo P M p other → other ≡ one
one_cannot P M p one other is too = by (cannot_cases P M p one is) (cannot_cases P M p other too)
  where
    by : ((one ≡ NothingToUndo) × (place_at M p ≡ 0)) ⊎ ((q : ℕ) × (one ≡ Consequence (record { 0 = q })) × IsNeeded P M p q)
        → ((other ≡ NothingToUndo) × (place_at M p ≡ 0)) ⊎ ((q : ℕ) × (other ≡ Consequence (record { 0 = q })) × IsNeeded P M p q)
        → other ≡ one
    by (inl a) (inl b) = b.0 ∙ sym a.0
    by (inl a) (inr b) = let some = b.2.some in let none = a.1 in absurd (omega (arith, some, none))
    by (inr a) (inl b) = let some = a.2.some in let none = b.1 in absurd (omega (arith, some, none))
    by (inr a) (inr b) =
        b.1
        ∙ ap (λ (q : ℕ). Consequence (record { 0 = q }))
        (one_target (last_target P M p (last_choice M p)) b.0 a.0 b.2.receiver a.2.receiver)
        ∙ sym a.1

module _ (P : Program) (M : ModelState) (of : IsStateOf P M.system) (possible : IsPossible P (history_of M.system)) (p : ℕ)
    (here : p < length P) where
  -- how many events the process has, and the last of them
  events_of : length (get_or (history_of M.system) p []) ≡ place_at M.system p
  events_of =
      ap (λ (l : List ℕ). length l) (cut_at M.system.lines M.system.places p)
      ∙ length-take-le (place_at M.system p) (line_of M.system p) (of.within p)

  -- an event that may be undone has no reason to stay
  pub may_or_stays : (refusal : Refusal) → MayUndo P (history_of M.system) p → CannotUndo P M.system p refusal → ⊥
  may_or_stays refusal may why =
      ⊎_elim
      (λ (none : (refusal ≡ NothingToUndo) × (place_at M.system p ≡ 0)).
      let some = may.some in absurd (omega (arith, some, none.1, events_of)))
      (λ (needed : (q : ℕ) × (refusal ≡ Consequence (record { 0 = q })) × IsNeeded P M.system p q). needed.2.impossible may.rest)
      (cannot_cases P M.system p refusal why)

  last_of : (n : ℕ) → place_at M.system p ≡ suc n
      → (last_choice M.system p ≡ Some (get_or (line_of M.system p) n 0))
      × (reversal.choice_at_end (history_of M.system) p ≡ get_or (line_of M.system p) n 0)
  last_of n at =
      let line = line_of M.system p in
      let fits = of.within p in
      let within : n < length line = omega (arith, at, fits) in
      let own : get_or (history_of M.system) p [] ≡ take (n + 1) line =
      cut_at M.system.lines M.system.places p ∙ ap (λ (m : ℕ). take m line) (omega (arith, at)) in
      let last : length (get_or (history_of M.system) p []) - 1 ≡ n = omega (arith, events_of, at) in (
        ap (λ (m : ℕ). choice_before m line) at ∙ slice_get-get_or line n 0 within,
        (λ i. get_or (own i) (last i) 0) ∙ get_or-take (n + 1) line n 0 (omega arith),
      )

  undoes_one : HasOne (λ said after. TakesBack P p M said after ⊎ KeepsEvent P p M said after)
  undoes_one = by (place_at M.system p) refl
    where
      keeps : (refusal : Refusal) → CannotUndo P M.system p refusal → (¬ MayUndo P (history_of M.system) p)
          → HasOne (λ said after. TakesBack P p M said after ⊎ KeepsEvent P p M said after)
      keeps refusal why never = record {
        said = Refused refusal;
        left = M;
        is = inr (record { refusal = refusal; why = why; reported = (refl, refl) });
        only = λ other after acts.
            ⊎_elim (λ (back : TakesBack P p M other after). absurd (never back.may))
            (λ (stays : KeepsEvent P p M other after). (
              stays.reported.0 ∙ ap (λ (r : Refusal). Refused r) (one_cannot P M.system p refusal stays.refusal why stays.why),
              stays.reported.1,
            ))
            acts;
      }

      takes : (k : ℕ) → last_choice M.system p ≡ Some k → MayUndo P (history_of M.system) p
          → HasOne (λ said after. TakesBack P p M said after ⊎ KeepsEvent P p M said after)
      takes k was may =
          let change = changes_one P (Undone (record { 0 = p }) (record { 0 = k })) (with_system M (after_undo M.system p)) in
          record {
            said = change.said;
            left = change.left;
            is = inl (record { may = may; choice = k; was = was; reported = change.is.0; left = change.is.1 });
            only = λ other after acts.
                ⊎_elim
                (λ (back : TakesBack P p M other after).
                change.only other after (
                  subst (λ (m : ℕ). Accepts P (Undone (record { 0 = p }) (record { 0 = m })) other after)
                      (one_target (last_choice M.system p) back.choice k back.was was) back.reported,
                  back.left,
                ))
                (λ (stays : KeepsEvent P p M other after). absurd (may_or_stays stays.refusal may stays.why)) acts;
          }

      by : (n : ℕ) → place_at M.system p ≡ n → HasOne (λ said after. TakesBack P p M said after ⊎ KeepsEvent P p M said after)
      by zero at = keeps NothingToUndo at (λ may. (let some = may.some in absurd (omega (arith, some, at, events_of))))
      by (suc n) at =
          let H = history_of M.system in
          let k = get_or (line_of M.system p) n 0 in
          let last = last_of n at in
          let some : 0 < length (get_or H p []) = omega (arith, at, events_of) in
          ⊎_elim (λ (rest : IsPossible P (without_last H p)). takes k last.0 (record { some = some; rest = rest }))
          (λ (never : ¬ IsPossible P (without_last H p)).
          stays k last.0 last.1 (omega (arith, at)) some never (target_in (command_of P p k)) refl)
          (known_possible P (without_last H p))
        where
          stays : (k : ℕ) → last_choice M.system p ≡ Some k → reversal.choice_at_end (history_of M.system) p ≡ k
              → 0 < place_at M.system p → 0 < length (get_or (history_of M.system) p [])
              → (¬ IsPossible P (without_last (history_of M.system) p)) → (o : Option ℕ) → target_in (command_of P p k) ≡ o
              → HasOne (λ said after. TakesBack P p M said after ⊎ KeepsEvent P p M said after)
          stays k was same placed some never None to =
              let H = history_of M.system in
              absurd (never (undone P (without_last H p) p (reversal.choice_at_end H p) (within_without H p some)
              (subst (IsPossible P) (sym (with_without H p some)) possible)
              (λ t sends apart there.
              let wrong : None ≡ Some t = sym to ∙ ap (λ (m : ℕ). target_in (command_of P p m)) (sym same) ∙ sends in cc)))
          stays k was same placed some never (Some q) to =
              keeps (Consequence (record { 0 = q }))
              (record { some = placed; impossible = never; receiver = ap (last_target P M.system p) was ∙ to }) (λ may. never may.rest)

-- A command by itself.
one_act : (P : Program) (plan : Plan) (M : ModelState) → IsStateOf P M.system → IsPossible P (history_of M.system)
    → HasOne (Acts P plan M)
one_act P (Step p k) M of possible =
    process_one P p
    (λ said after. UnlessHalted P (Plays P p (step_choice P M.system p k) (after_choice M.system p) M said after) M said after) M
    (λ here. unhalted_one P (Plays P p (step_choice P M.system p k) (after_choice M.system p) M) M
    (plays_one P p (step_choice P M.system p k) (after_choice M.system p) M))
one_act P (Next p) M of possible =
    process_one P p
    (λ said after. UnlessHalted P (Plays P p (next_choice P M.system p) (after_choice M.system p) M said after) M said after) M
    (λ here. unhalted_one P (Plays P p (next_choice P M.system p) (after_choice M.system p) M) M
    (plays_one P p (next_choice P M.system p) (after_choice M.system p) M))
one_act P (Redo p) M of possible =
    process_one P p
    (λ said after. UnlessHalted P (Plays P p (redo_choice P M.system p) (λ k. after_redo M.system p) M said after) M said after) M
    (λ here. unhalted_one P (Plays P p (redo_choice P M.system p) (λ k. after_redo M.system p) M) M
    (plays_one P p (redo_choice P M.system p) (λ k. after_redo M.system p) M))
one_act P (Undo p) M of possible =
    process_one P p (λ said after. TakesBack P p M said after ⊎ KeepsEvent P p M said after) M (λ here. undoes_one P M of possible p here)
one_act P (Rollback p n) M of possible =
    process_one P p (λ said after. RollsBackAt P p n M said after) M
    (λ here. match_one (nat_lt (place_at M.system p) n) (Refuses BadPlace M) (RollsBack P p n M) (λ past. refuses_one BadPlace M)
    (λ within. rolls_one P p n M))
one_act P (Goto name) M of possible =
    found_one (named name M.breakpoints) (λ b said after. GoesTo P b M said after ⊎ (HasNone P M b × Refuses refusals.NoCut M said after)) M
    (λ b is. goes_one P b M)
one_act P (Break name conjuncts) M of possible = sets_one (break_refusal P M name conjuncts) P name conjuncts M
one_act P (Clear name) M of possible =
    found_one (named name M.breakpoints) (λ b said after. Lists P (without name M.breakpoints) M said after) M
    (λ b is. lists_one P (without name M.breakpoints) M)
one_act P (Arm name) M of possible =
    found_one (named name M.breakpoints) (λ b said after. Arms P name b M said after) M
    (λ b is. match_one b.armed (Refuses AlreadyArmed M) (Lists P (with_mark name true M.breakpoints) M) (λ armed. refuses_one AlreadyArmed M)
    (λ free. lists_one P (with_mark name true M.breakpoints) M))
one_act P (Pass name) M of possible =
    found_one (named name M.breakpoints) (λ b said after. Passes P name b M said after) M (λ b is. passes_one P name b M)

-- A batch, command by command.

-- the result of the first of these commands, and then the others
module _ (P : Program) (start : ModelState) (at : ℕ) (plan : Plan) (plans : List Plan) (M : ModelState) (first : HasOne (Acts P plan M)) where
  -- it is accepted
  first_accepted : (reply : Reply) → first.said ≡ Accepted reply → HasOne (Batches P start (at + 1) plans first.left)
      → HasOne (Batches P start at (plan ∷ plans) M)
  first_accepted reply reported others = record {
    said = others.said;
    left = others.left;
    is = inl (reply, first.left, subst (λ (said : Said). Acts P plan M said first.left) reported first.is, others.is);
    only = λ other after does.
        ⊎_elim
        (λ (goes : (again : Reply) × (between : ModelState) × Acts P plan M (Accepted again) between
        × Batches P start (at + 1) plans between other after).
        others.only other after
        (subst (λ (N : ModelState). Batches P start (at + 1) plans N other after)
        (first.only (Accepted goes.0) goes.1 goes.2).1 goes.3))
        (λ (ends : (refusal : Refusal) × Acts P plan M (Refused refusal) M
        × Refuses (InBatch at (refusal_number refusal)) start other after).
        let wrong : Refused ends.0 ≡ Accepted reply = (first.only (Refused ends.0) M ends.1).0 ∙ reported in cc) does;
  }

  -- it is refused
  first_refused : (refusal : Refusal) → first.said ≡ Refused refusal → first.left ≡ M → HasOne (Batches P start at (plan ∷ plans) M)
  first_refused refusal reported stays = record {
    said = Refused (InBatch at (refusal_number refusal));
    left = start;
    is = inr (
      refusal,
      subst (λ (N : ModelState). Acts P plan M (Refused refusal) N) stays
          (subst (λ (said : Said). Acts P plan M said first.left) reported first.is),
      (refl, refl),
    );
    only = λ other after does.
        ⊎_elim
        (λ (goes : (again : Reply) × (between : ModelState) × Acts P plan M (Accepted again) between
        × Batches P start (at + 1) plans between other after).
        let wrong : Accepted goes.0 ≡ Refused refusal = (first.only (Accepted goes.0) goes.1 goes.2).0 ∙ reported in cc)
        (λ (ends : (again : Refusal) × Acts P plan M (Refused again) M
        × Refuses (InBatch at (refusal_number again)) start other after).
        let same : Refused ends.0 ≡ Refused refusal = (first.only (Refused ends.0) M ends.1).0 ∙ reported in
        let is : ends.0 ≡ refusal = cc in
        (ends.2.0 ∙ ap (λ (r : Refusal). Refused (InBatch at (refusal_number r))) is, ends.2.1)) does;
  }

batches_one : (P : Program) (start : ModelState) (at : ℕ) (plans : List Plan) (M : ModelState) → IsReached P M.system
    → HasOne (Batches P start at plans M)
batches_one P start at [] M reached = changes_one P Plain M
batches_one P start at (plan ∷ plans) M reached =
    let first = one_act P plan M reached.state reached.possible in
    let leaves = acts_keep P M reached plan first.said first.left first.is in
    ⊎_elim
    (λ (does : (reply : Reply) × (first.said ≡ Accepted reply)).
    first_accepted P start at plan plans M first does.0 does.1 (batches_one P start (at + 1) plans first.left leaves.reached))
    (λ (stays : (refusal : Refusal) × (first.said ≡ Refused refusal) × (first.left ≡ M)).
    first_refused P start at plan plans M first stays.0 stays.1 stays.2) leaves.settled

-- Each order has exactly one reply and one state after it.
pub one_outcome : (P : Program) (order : Order) (M : ModelState) → IsStateOf P M.system → IsPossible P (history_of M.system)
    → HasOne (Follows P order M)
one_outcome P (One plan) M of possible = one_act P plan M of possible
one_outcome P (Batch plans) M of possible = batches_one P M 1 plans M (record { state = of; possible = possible })
