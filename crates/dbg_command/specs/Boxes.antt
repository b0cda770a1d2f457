-- What a command keeps once it was accepted: when that can undo it, and the state to which the undo leads.
use Rattle.std.specs.Prelude.{◌≡◌, ℕ, ◌<◌, ◌≤◌, Bool, true, false, List, [], length, insert, Option, Some, None, slice_get, ◌∷◌}
use Rattle.dbg_base.specs.declared.call.Plan as plan
use Rattle.dbg_base.specs.declared.call.Plan.TheVariants as plans
use Rattle.dbg_base.specs.declared.refusal.Refusal.{Refusal}
use Rattle.dbg_base.specs.declared.limits.TheConstants.{BREAKPOINTS}
use Rattle.dbg_base.specs.Trees.{Program}
use Rattle.dbg_base.specs.SystemStates.{line_of, place_at, redo_line, last_choice, after_choice, after_redo, after_undo, after_rollback}
use Rattle.dbg_base.specs.Acts.{conjuncts_refusal}
use Rattle.dbg_base.specs.Breakpoints.{Breakpoint, named, without, with_mark}
use Rattle.dbg_base.specs.ModelStates.{ModelState, with_system}
use Rattle.dbg_base.specs.Calls.{Order, One, Batch, Undo, Goto, Break, Clear, Arm, Pass}
use Rattle.causal_world.specs.declared.rolled.Taken.{Taken}
use Rattle.causal_world.specs.Scenes.{Scene, IsWorldOf, restored}
use Rattle.causal_world.specs.Rollings.{IsRolledFrom}
use Rattle.least_cut.specs.Watches.{TruthLine, scan_of}
use Rattle.least_cut.specs.Detectors.{IsDetectorOf}
use Rattle.break_book.specs.Books.{Kept, breakpoint_of}

-- A command led from M to M'. It can be undone in M', and that leads to M.
pub record LeadsBack (MayGoBack : ModelState → Type 0) (undone : ModelState → ModelState) (M M' : ModelState) : Type 0 where
  pub may : MayGoBack M'
  pub leads : undone M' ≡ M

-- something is kept, and has this property
abbrev pub IfKept : {A : Type 0} → Option A → (A → Type 0) → Type 0
IfKept None Holds = ⊥
IfKept (Some kept) Holds = Holds kept

abbrev pub undone_by : {A : Type 0} → Option A → (A → ModelState → ModelState) → ModelState → ModelState
undone_by None undone M = M
undone_by (Some kept) undone M = undone kept M

-- the same, if all that is kept is that the command was applied
abbrev pub IfApplied : Bool → Type 0 → Type 0
IfApplied false Holds = ⊥
IfApplied true Holds = Holds

-- a command led from M to M', and what is kept of it undoes it
abbrev pub LeadsBackBy : {A : Type 0} → Option A → (A → ModelState → Type 0) → (A → ModelState → ModelState) → ModelState → ModelState → Type 0
LeadsBackBy kept MayGoBack undone M M' =
    (kept ≡ None → ⊥) × LeadsBack (λ N. IfKept kept (λ it. MayGoBack it N)) (undone_by kept undone) M M'

-- Process p made a choice that led to M, and these choices were cut off its line.
pub record HasStepped (P : Program) (p : ℕ) (cutoff : List ℕ) (M : ModelState) : Type 0 where
  pub before : Scene
  pub of : IsWorldOf P before
  pub here : p < length P
  pub choice : ℕ
  pub state : M.system ≡ after_choice before.state p choice
  pub cut : cutoff ≡ redo_line before.state p

abbrev pub unstepped : ℕ → List ℕ → ModelState → ModelState
unstepped p cutoff M = with_system M (restored M.system p cutoff)

-- Process p made the choice at its place again, which led to M.
pub record HasRedone (P : Program) (p : ℕ) (M : ModelState) : Type 0 where
  pub before : Scene
  pub of : IsWorldOf P before
  pub here : p < length P
  pub choice : ℕ
  pub next : slice_get (line_of before.state p) (place_at before.state p) ≡ Some choice
  pub state : M.system ≡ after_redo before.state p

abbrev pub unredone : ℕ → ModelState → ModelState
unredone p M = with_system M (after_undo M.system p)

-- These events were undone, which led to M, from a world with these places.
pub record HasRolled (P : Program) (taken : List Taken) (places : List ℕ) (M : ModelState) : Type 0 where
  pub before : Scene
  pub now : Scene
  pub of : IsWorldOf P now
  pub from : IsRolledFrom P before taken now
  pub state : now.state ≡ M.system
  pub was : before.state ≡ after_rollback M.system places

abbrev pub unrolled : List ℕ → ModelState → ModelState
unrolled places M = with_system M (after_rollback M.system places)

-- the places before the last event of process p was undone
abbrev pub places_before : ℕ → ModelState → List ℕ
places_before p M = (after_redo M.system p).places

-- Process p exists, and its last event was undone, which led to M.
pub record HasUndone (P : Program) (p : ℕ) (taken : List Taken) (M : ModelState) : Type 0 where
  pub here : p < length P
  pub rolled : HasRolled P taken (places_before p M) M

abbrev pub remade : ℕ → ModelState → ModelState
remade p M = unrolled (places_before p M) M

-- there is a breakpoint of this name
abbrev pub HasNamed : List ℕ → ModelState → Type 0
HasNamed name M = (b : Breakpoint) × (named name M.breakpoints ≡ Some b)

-- and it is not armed
abbrev pub HasUnarmed : List ℕ → ModelState → Type 0
HasUnarmed name M = (b : Breakpoint) × (named name M.breakpoints ≡ Some b) × (b.armed ≡ false)

-- the state without this breakpoint
abbrev pub unset : List ℕ → ModelState → ModelState
unset name M = record M { breakpoints = without name M.breakpoints }

-- whether the plan sets a breakpoint, and of which name
abbrev pub is_break : plan.Plan → Bool
is_break (plans.Break name conjuncts) = true
is_break other = false

abbrev pub name_set : plan.Plan → List ℕ
name_set (plans.Break name conjuncts) = name
name_set other = []

-- whether it is a batch
abbrev pub is_batch : Order → Bool
is_batch (One plan) = false
is_batch (Batch plans) = true

-- process p has an event
abbrev pub HasEvent : ℕ → ModelState → Type 0
HasEvent p M = (k : ℕ) × (last_choice M.system p ≡ Some k)

-- Giving the order in this state may allocate. Removing or marking a breakpoint does not. Neither does a refusal because a process has no
-- event to undo, or because there is no breakpoint to go to.
abbrev pub GiveMayAllocate : Order → ModelState → Type 0
GiveMayAllocate (One (Clear name)) M = ⊥
GiveMayAllocate (One (Arm name)) M = ⊥
GiveMayAllocate (One (Pass name)) M = ⊥
GiveMayAllocate (One (Undo p)) M = HasEvent p M
GiveMayAllocate (One (Goto name)) M = HasNamed name M
GiveMayAllocate order M = Unit {0}

-- whether undoing the order may allocate: removing or marking a breakpoint does not, and exchanging two tables does not
abbrev pub takes_memory_back : Order → Bool
takes_memory_back (One (Break name conjuncts)) = false
takes_memory_back (One (Arm name)) = false
takes_memory_back (One (Pass name)) = false
takes_memory_back (Batch plans) = false
takes_memory_back order = true

-- the state with this mark of the breakpoint
abbrev pub marked : List ℕ → Bool → ModelState → ModelState
marked name armed M = record M { breakpoints = with_mark name armed M.breakpoints }

-- The breakpoint of this name was removed from this position, from 0, which led to M.
pub record HasCleared (P : Program) (position : ℕ) (name : List ℕ) (kept : Kept) (M : ModelState) : Type 0 where
  pub place : position ≤ length M.breakpoints
  pub few : length M.breakpoints < BREAKPOINTS
  pub free : named name M.breakpoints ≡ None
  pub detector : (w : Scene) → IsWorldOf P w → w.state ≡ M.system → IsDetectorOf w kept.detector

abbrev pub uncleared : ℕ → List ℕ → Kept → ModelState → ModelState
uncleared position name kept M = record M { breakpoints = insert M.breakpoints position (breakpoint_of (name, kept)) }

-- The scan that is passed with an order is that of its conjuncts. Other orders ignore it.
abbrev pub IsScanFor : Order → Program → ModelState → List TruthLine → Type 0
IsScanFor (One (Break name conjuncts)) P M scan = (w : Scene) → IsWorldOf P w → w.state ≡ M.system → scan ≡ scan_of w conjuncts
IsScanFor order P M scan = Unit {0}

-- what is scanned for an order: nothing if its conjuncts are refused
abbrev pub ScansUnless : Option Refusal → Order → Program → ModelState → Option (List TruthLine) → Type 0
ScansUnless (Some refusal) order P M found = found ≡ None
ScansUnless None order P M found = IfKept found (IsScanFor order P M)

-- What is scanned for an order: a breakpoint's conjuncts, if there is at least one and they are not refused, and otherwise nothing.
abbrev pub ScansFor : Order → Program → ModelState → Option (List TruthLine) → Type 0
ScansFor (One (Break name [])) P M found = found ≡ None
ScansFor (One (Break name (c ∷ conjuncts))) P M found =
    ScansUnless (conjuncts_refusal P [] (c ∷ conjuncts)) (One (Break name (c ∷ conjuncts))) P M found
ScansFor order P M found = found ≡ None
