-- Breakpoints: predicates by name, in the order in which they were set, and which of them halts a session.
use Rattle.std.specs.Prelude.{◌≡◌, ℕ, ◌-◌, ◌<◌, Bool, List, [], ◌∷◌, length, Option, Some, None, is_some, nat_lt, if◌then◌else◌, ◌⊎◌}
use Rattle.std.specs.Prelude.{slice_get}
use Rattle.std.specs.Bool.{MatchBool}
use Rattle.std.specs.Str.{bytes_eq}
use Rattle.dbg_base.specs.declared.refusal.Refusal.{Refusal}
use Rattle.dbg_base.specs.declared.refusal.Refusal.TheVariants.{BreakTaken, BreaksFull}
use Rattle.dbg_base.specs.declared.limits.TheConstants.{BREAKPOINTS}
use Rattle.dbg_base.specs.Trees.{Program}
use Rattle.dbg_base.specs.Histories.{History}
use Rattle.dbg_base.specs.Predicates.{Conjunct, IsLeast, NoCut}

-- a name, a predicate, and whether the breakpoint halts the session if some cut satisfies the predicate
pub record Breakpoint : Type 0 where
  pub name : List ℕ
  pub conjuncts : List Conjunct
  pub armed : Bool

-- the breakpoint of this name
abbrev pub named : List ℕ → List Breakpoint → Option Breakpoint
named name [] = None
named name (b ∷ breakpoints) = if bytes_eq name b.name then Some b else named name breakpoints

-- the list without it
abbrev pub without : List ℕ → List Breakpoint → List Breakpoint
without name [] = []
without name (b ∷ breakpoints) = if bytes_eq name b.name then breakpoints else b ∷ without name breakpoints

-- the list with this mark for the breakpoint of this name
abbrev pub with_mark : List ℕ → Bool → List Breakpoint → List Breakpoint
with_mark name armed [] = []
with_mark name armed (b ∷ breakpoints) =
    if bytes_eq name b.name then record b { armed = armed } ∷ breakpoints else b ∷ with_mark name armed breakpoints

-- why no further breakpoint of this name may be set, if none may
abbrev pub name_refusal : List ℕ → List Breakpoint → Option Refusal
name_refusal name breakpoints =
    if is_some (named name breakpoints) then Some BreakTaken
    else (if nat_lt (length breakpoints) BREAKPOINTS then None else Some BreaksFull)

-- this cut is the least that satisfies the breakpoint's predicate
abbrev pub HasCut : Program → History → Breakpoint → Type 0
HasCut P H b = (cut : List ℕ) × IsLeast P H b.conjuncts cut

-- The breakpoint that halts the session: the first armed one that has a cut, or none.
abbrev pub IsHaltedBy : Program → History → List Breakpoint → Option (List ℕ) → Type 0
IsHaltedBy P H [] halted = halted ≡ None
IsHaltedBy P H (b ∷ breakpoints) halted =
    MatchBool b.armed
    ((HasCut P H b × (halted ≡ Some b.name)) ⊎ (NoCut P H b.conjuncts × IsHaltedBy P H breakpoints halted))
    (IsHaltedBy P H breakpoints halted)

-- the breakpoint of this name is at this position, from 1; without a name the position is 0
abbrev pub IsAtPlace : List Breakpoint → Option (List ℕ) → ℕ → Type 0
IsAtPlace breakpoints None place = place ≡ 0
IsAtPlace breakpoints (Some name) place =
    (0 < place) × (b : Breakpoint) × (slice_get breakpoints (place - 1) ≡ Some b) × (b.name ≡ name)

-- the position of the breakpoint that halts the session, or 0 if none does
pub record HaltsAt (P : Program) (H : History) (breakpoints : List Breakpoint) (place : ℕ) : Type 0 where
  pub halted : Option (List ℕ)
  pub is : IsHaltedBy P H breakpoints halted
  pub at : IsAtPlace breakpoints halted place
