-- What is kept of a command undoes it: from the state to which it led, to the state in which it was given.
use Rattle.std.proofs.Common.{◌≡◌, ℕ, zero, suc, ◌+◌, ◌-◌, ◌<◌, ◌≤◌, Bool, true, false, List, [], ◌∷◌, ◌++◌, length, get_or, set, insert}
use Rattle.std.proofs.Common.{Option, Some, None, refl, sym, ap, ◌∙◌, subst, arith}
use Rattle.std.specs.Prelude.{slice_get, Result, Ok, Err, OnOk, IfErr, IfSome}
use Rattle.dbg_base.specs.declared.refusal.Refusal.{Refusal}
use Rattle.dbg_base.specs.declared.refusal.Refusal.TheVariants.{Memory}
use Rattle.std.proofs.lemmas.List.{length-map, set-set, set-get_or, get_or-set_same}
use Rattle.dbg_base.specs.declared.limits.TheConstants.{BREAKPOINTS}
use Rattle.dbg_base.specs.Trees.{Program}
use Rattle.dbg_base.specs.SystemStates.{SystemState, line_of, place_at, redo_line, after_choice, after_redo, after_undo}
use Rattle.dbg_base.specs.SystemStates.{after_rollback, choice_before, last_choice, IsStateOf}
use Rattle.dbg_base.specs.Predicates.{Conjunct}
use Rattle.dbg_base.specs.Breakpoints.{Breakpoint, named, without, with_mark}
use Rattle.dbg_base.specs.ModelStates.{ModelState}
use Rattle.causal_world.specs.declared.rolled.Taken.{Taken}
use Rattle.causal_world.specs.Scenes.{Scene, IsWorldOf, restored}
use Rattle.causal_world.specs.Rollings.{IsStepped, IsRedone, IsRolled, IsRolledFrom}
use Rattle.causal_world.proofs.Inverses.{place_back, restored_back}
use Rattle.causal_world.proofs.SameWorldLemmas.{same_world}
use Rattle.dbg_base.specs.Calls.{One, Break}
use Rattle.least_cut.specs.Watches.{TruthLine, scan_of}
use Rattle.least_cut.specs.Detectors.{IsDetectorOf}
use Rattle.break_book.specs.Books.{Kept, Entry, breakpoint_of, breakpoints_of, AreDetectorsOf}
use Rattle.dbg_command.specs.Tables.{TableState, IsTableOf, state_of}
use Rattle.dbg_command.specs.Boxes.{LeadsBack, HasStepped, HasRedone, HasRolled, HasUndone, HasNamed, HasUnarmed, HasCleared, IsScanFor}
use Rattle.dbg_command.specs.Boxes.{unstepped, unredone, unrolled, remade, unset, marked, uncleared}
use Rattle.break_book.proofs.BookUndoLemmas.{detector_taken, breakpoints_inserted}
use Rattle.dbg_command.proofs.BreakpointListLemmas.{set_named, set_without, marked_named, marked_back}

-- what leads back between two states leads back between equal states
pub leads_from : (MayGoBack : ModelState → Type 0) (undone : ModelState → ModelState) (M M' N N' : ModelState) → M ≡ N → M' ≡ N'
    → LeadsBack MayGoBack undone M M' → LeadsBack MayGoBack undone N N'
leads_from MayGoBack undone M M' N N' from to leads =
    subst (λ (X : ModelState). LeadsBack MayGoBack undone N X) to (subst (λ (X : ModelState). LeadsBack MayGoBack undone X M') from leads)

-- what holds anyway holds also if memory ran out
pub if_refused : {A Holds : Type 0} (r : Result A Refusal) → Holds → IfErr r (λ refusal. refusal ≡ Memory → Holds)
if_refused (Ok done) holds = tt
if_refused (Err refusal) holds = λ memory. holds

-- what holds of an accepted command for each program of the table holds for one
pub accepted_in : {A : Type 0} (r : Result A Refusal) (t : TableState) (P : Program) (Holds : Program → Type 0)
    → OnOk r ((Q : Program) → IsTableOf Q t → Holds Q) → IsTableOf P t → OnOk r (Holds P)
accepted_in (Ok done) t P Holds holds is = holds P is
accepted_in (Err refusal) t P Holds holds is = tt

-- the scan that is passed for a breakpoint is that of the world
pub scan_here : (P : Program) (t : TableState) (name : List ℕ) (conjuncts : List Conjunct) (scan : Option (List TruthLine))
    → IsWorldOf P t.world → IfSome scan (IsScanFor (One (Break name conjuncts)) P (state_of t))
    → IfSome scan (λ s. s ≡ scan_of t.world conjuncts)
scan_here P t name conjuncts None of is = tt
scan_here P t name conjuncts (Some scan) of is = is t.world of refl

-- a line that was cut is as before
pub step_undone : (P : Program) (before : Scene) (M : SystemState) (p k : ℕ) (cutoff : List ℕ) → IsWorldOf P before → p < length P
    → M ≡ after_choice before.state p k → cutoff ≡ redo_line before.state p → restored M p cutoff ≡ before.state
step_undone P before M p k cutoff of here state cut =
    ap (λ (N : SystemState). restored N p cutoff) state ∙ ap (restored (after_choice before.state p k) p) cut
    ∙ restored_back before.state p k (omega (arith, here, of.state.lines)) (omega (arith, here, of.state.places)) (of.state.within p)

-- a place that moved forward is as before
pub redo_undone : (P : Program) (before : Scene) (M : SystemState) (p : ℕ) → IsWorldOf P before → p < length P
    → M ≡ after_redo before.state p → after_undo M p ≡ before.state
redo_undone P before M p of here state =
    ap (λ (N : SystemState). after_undo N p) state ∙ place_back before.state p (omega (arith, here, of.state.places))

-- a process with a last choice has a place beyond the start
has_event : (n k : ℕ) (line : List ℕ) → choice_before n line ≡ Some k → 0 < n
has_event zero k line was = cc
has_event (suc n) k line was = omega arith

-- a place that moved back is as before
undo_undone : (P : Program) (before : Scene) (M : SystemState) (p k : ℕ) → IsWorldOf P before → p < length P
    → last_choice before.state p ≡ Some k → M ≡ after_undo before.state p → after_redo M p ≡ before.state
undo_undone P before M p k of here was state =
    let n = place_at before.state p in
    let places = before.state.places in
    let some = has_event n k (line_of before.state p) was in
    let lower : get_or (set places p (n - 1)) p 0 ≡ n - 1 = get_or-set_same places p (n - 1) 0 (omega (arith, here, of.state.places)) in
    let back : get_or (set places p (n - 1)) p 0 + 1 ≡ n = omega (arith, lower, some) in
    let same : set (set places p (n - 1)) p (get_or (set places p (n - 1)) p 0 + 1) ≡ places =
    set-set places p (n - 1) (get_or (set places p (n - 1)) p 0 + 1) ∙ ap (set places p) back ∙ set-get_or places p 0 in
    ap (λ (N : SystemState). after_redo N p) state ∙ (λ i. record { lines = before.state.lines; places = same i })

module _ (P : Program) (old new : TableState) (of : IsWorldOf P old.world) (same : breakpoints_of new.book ≡ breakpoints_of old.book) where
  pub stepped : (p k : ℕ) (cutoff : List ℕ) → p < length P → new.world.state ≡ after_choice old.world.state p k
      → cutoff ≡ redo_line old.world.state p → LeadsBack (HasStepped P p cutoff) (unstepped p cutoff) (state_of old) (state_of new)
  stepped p k cutoff here state cut =
      let back = step_undone P old.world new.world.state p k cutoff of here state cut in
      record {
        may = record { before = old.world; of = of; here = here; choice = k; state = state; cut = cut };
        leads = λ i. record { system = back i; breakpoints = same i };
      }

  pub redone : (p k : ℕ) → p < length P → slice_get (line_of old.world.state p) (place_at old.world.state p) ≡ Some k
      → new.world.state ≡ after_redo old.world.state p → LeadsBack (HasRedone P p) (unredone p) (state_of old) (state_of new)
  redone p k here next state =
      let back = redo_undone P old.world new.world.state p of here state in
      record {
        may = record { before = old.world; of = of; here = here; choice = k; next = next; state = state };
        leads = λ i. record { system = back i; breakpoints = same i };
      }

  pub rolled : (taken : List Taken) (places : List ℕ) → IsWorldOf P new.world → IsRolledFrom P old.world taken new.world
      → places ≡ old.world.state.places → new.world.state.lines ≡ old.world.state.lines
      → LeadsBack (HasRolled P taken places) (unrolled places) (state_of old) (state_of new)
  rolled taken places now from was lines =
      let back : after_rollback new.world.state places ≡ old.world.state = (λ i. record { lines = lines i; places = was i }) in
      record {
        may = record {
          before = old.world;
          now = new.world;
          of = now;
          from = from;
          state = refl;
          was = sym back;
        };
        leads = λ i. record { system = back i; breakpoints = same i };
      }

  pub undone : (p k : ℕ) (taken : List Taken) → p < length P → last_choice old.world.state p ≡ Some k → IsWorldOf P new.world
      → IsRolledFrom P old.world taken new.world → new.world.state ≡ after_undo old.world.state p
      → LeadsBack (HasUndone P p taken) (remade p) (state_of old) (state_of new)
  undone p k taken here was now from state =
      let back = undo_undone P old.world new.world.state p k of here was state in
      record {
        may = record {
          here = here;
          rolled = record {
            before = old.world;
            now = new.world;
            of = now;
            from = from;
            state = refl;
            was = sym back;
          };
        };
        leads = λ i. record { system = back i; breakpoints = same i };
      }

-- What the inverses of a world require.

abbrev pub is_stepped : (P : Program) (t : TableState) (p : ℕ) (cutoff : List ℕ) → IsTableOf P t → HasStepped P p cutoff (state_of t)
    → IsStepped P p cutoff t.world
is_stepped P t p cutoff is has = record {
  before = has.before;
  of = has.of;
  now = is.world;
  here = has.here;
  choice = has.choice;
  state = has.state;
  cut = has.cut;
}

abbrev pub is_redone : (P : Program) (t : TableState) (p : ℕ) → IsTableOf P t → HasRedone P p (state_of t) → IsRedone P p t.world
is_redone P t p is has = record {
  before = has.before;
  of = has.of;
  now = is.world;
  here = has.here;
  choice = has.choice;
  next = has.next;
  state = has.state;
}

-- a world with these lines and places is this world
abbrev pub is_rolled : (P : Program) (w : Scene) (breakpoints : List Breakpoint) (taken : List Taken) (places : List ℕ) → IsWorldOf P w
    → HasRolled P taken places (record { system = w.state; breakpoints = breakpoints }) → IsRolled P taken w
is_rolled P w breakpoints taken places of has = record {
  before = has.before;
  from = subst (IsRolledFrom P has.before taken) (same_world P has.now w has.of of has.state) has.from;
}

-- an event that was undone can be made again: it is on the line
pub undone_more : (P : Program) (M : ModelState) (p : ℕ) (taken : List Taken) → IsStateOf P M.system → HasUndone P p taken M
    → place_at M.system p < length (line_of M.system p)
undone_more P M p taken is has =
    let was = has.rolled.was in
    let here = has.here in
    let within : place_at (after_redo M.system p) p ≤ length (line_of M.system p) =
    subst (λ (N : SystemState). place_at N p ≤ length (line_of N p)) was (has.rolled.from.of.state.within p) in
    let higher : get_or (set M.system.places p (place_at M.system p + 1)) p 0 ≡ place_at M.system p + 1 =
    get_or-set_same M.system.places p (place_at M.system p + 1) 0 (omega (arith, here, is.places)) in
    omega (arith, within, higher)

-- Breakpoints that were changed.
module _ (system : SystemState) (old new : List Breakpoint) (name : List ℕ) where
  abbrev at : List Breakpoint → ModelState
  at breakpoints = record { system = system; breakpoints = breakpoints }

  -- one was set
  pub set_back : (b : Breakpoint) → b.name ≡ name → named name old ≡ None → new ≡ old ++ b ∷ []
      → LeadsBack (HasNamed name) (unset name) (at old) (at new)
  set_back b same free added = record {
    may = (b, ap (named name) added ∙ set_named name old b same free);
    leads = ap at (ap (without name) added ∙ set_without name old b same free);
  }

  -- one that was not armed was armed
  pub armed_back : (b : Breakpoint) → named name old ≡ Some b → b.armed ≡ false → new ≡ with_mark name true old
      → LeadsBack (HasNamed name) (marked name false) (at old) (at new)
  armed_back b there unarmed is = record {
    may = (record b { armed = true }, ap (named name) is ∙ marked_named name true old b there);
    leads = ap at (ap (with_mark name false) is ∙ ap (λ (t : Bool). with_mark name t (with_mark name true old)) (sym unarmed)
        ∙ marked_back name true old b there);
  }

  -- one that was armed was disarmed
  pub passed_back : (b : Breakpoint) → named name old ≡ Some b → b.armed ≡ true → new ≡ with_mark name false old
      → LeadsBack (HasUnarmed name) (marked name true) (at old) (at new)
  passed_back b there armed is = record {
    may = (record b { armed = false }, ap (named name) is ∙ marked_named name false old b there, refl);
    leads = ap at (ap (with_mark name true) is ∙ ap (λ (t : Bool). with_mark name t (with_mark name false old)) (sym armed)
        ∙ marked_back name false old b there);
  }

-- A breakpoint that was removed.
module _ (P : Program) (w : Scene) (old new : List Entry) (of : IsWorldOf P w) (are : AreDetectorsOf w old) where
  pub has_cleared : (position : ℕ) (name : List ℕ) (kept : Kept) → position ≤ length new → old ≡ insert new position (name, kept)
      → named name (breakpoints_of new) ≡ None → length new < BREAKPOINTS
      → LeadsBack (HasCleared P position name kept) (uncleared position name kept) (record { system = w.state; breakpoints = breakpoints_of old })
      (record { system = w.state; breakpoints = breakpoints_of new })
  has_cleared position name kept place whole free few =
      let size = length-map new breakpoint_of in
      let there : IsDetectorOf w kept.detector = detector_taken w old new position (name, kept) whole are in
      let back : insert (breakpoints_of new) position (breakpoint_of (name, kept)) ≡ breakpoints_of old =
      sym (ap breakpoints_of whole ∙ breakpoints_inserted new position (name, kept)) in
      record {
        may = record {
          place = omega (arith, place, size);
          few = omega (arith, few, size);
          free = free;
          detector = λ v other state. subst (λ (x : Scene). IsDetectorOf x kept.detector) (sym (same_world P v w other of state)) there;
        };
        leads = λ i. record { system = w.state; breakpoints = back i };
      }
