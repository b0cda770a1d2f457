-- Lists of breakpoints that are restored: one that was set is removed, and a changed mark is changed back.
use Rattle.std.proofs.Common.{◌≡◌, ℕ, Bool, true, false, List, [], ◌∷◌, ◌++◌, length, Option, Some, None}
use Rattle.std.proofs.Common.{refl, sym, ap, ◌∙◌}
use Rattle.std.specs.Prelude.{if◌then◌else◌, is_some, nat_lt}
use Rattle.std.specs.Str.{bytes_eq}
use Rattle.std.proofs.lemmas.Slice.Eq.{bytes_eq-Decides}
use Rattle.dbg_base.specs.declared.refusal.Refusal.TheVariants.{AlreadyArmed, BreakTaken, BreaksFull}
use Rattle.dbg_base.specs.declared.limits.TheConstants.{BREAKPOINTS}
use Rattle.dbg_base.specs.Trees.{Program}
use Rattle.dbg_base.specs.Histories.{History}
use Rattle.dbg_base.specs.Breakpoints.{Breakpoint, named, without, with_mark, name_refusal}
use Rattle.break_book.specs.Books.{arm_refusal, MayPass}

module _ (name : List ℕ) where
  -- A breakpoint that was set last.

  by_name : {A : Type 0} (n : List ℕ) (x y : A) → n ≡ name → (if bytes_eq name n then x else y) ≡ x
  by_name {A} n x y same = ap (λ (t : Bool). if t then x else y) ((bytes_eq-Decides name n).1 (sym same))

  pub set_named : (breakpoints : List Breakpoint) (b : Breakpoint) → b.name ≡ name → named name breakpoints ≡ None
      → named name (breakpoints ++ b ∷ []) ≡ Some b
  set_named [] b same none = by_name b.name (Some b) None same
  set_named (other ∷ breakpoints) b same none = by (bytes_eq name other.name) (λ rest. set_named breakpoints b same rest) none
    where
      by : (t : Bool) → (named name breakpoints ≡ None → named name (breakpoints ++ b ∷ []) ≡ Some b)
          → (if t then Some other else named name breakpoints) ≡ None
          → (if t then Some other else named name (breakpoints ++ b ∷ [])) ≡ Some b
      by true rest none = cc
      by false rest none = rest none

  pub set_without : (breakpoints : List Breakpoint) (b : Breakpoint) → b.name ≡ name → named name breakpoints ≡ None
      → without name (breakpoints ++ b ∷ []) ≡ breakpoints
  set_without [] b same none = by_name b.name [] (b ∷ []) same
  set_without (other ∷ breakpoints) b same none = by (bytes_eq name other.name) (λ rest. set_without breakpoints b same rest) none
    where
      by : (t : Bool) → (named name breakpoints ≡ None → without name (breakpoints ++ b ∷ []) ≡ breakpoints)
          → (if t then Some other else named name breakpoints) ≡ None
          → (if t then breakpoints ++ b ∷ [] else other ∷ without name (breakpoints ++ b ∷ [])) ≡ other ∷ breakpoints
      by true rest none = cc
      by false rest none = ap (λ (l : List Breakpoint). other ∷ l) (rest none)

  -- A mark that was changed.

  pub marked_named : (armed : Bool) (breakpoints : List Breakpoint) (b : Breakpoint) → named name breakpoints ≡ Some b
      → named name (with_mark name armed breakpoints) ≡ Some (record b { armed = armed })
  marked_named armed [] b there = cc
  marked_named armed (other ∷ breakpoints) b there =
      by (bytes_eq name other.name) refl (λ rest. marked_named armed breakpoints b rest) there
    where
      by : (t : Bool) → bytes_eq name other.name ≡ t
          → (named name breakpoints ≡ Some b → named name (with_mark name armed breakpoints) ≡ Some (record b { armed = armed }))
          → (if t then Some other else named name breakpoints) ≡ Some b
          → named name (if t then record other { armed = armed } ∷ breakpoints else other ∷ with_mark name armed breakpoints)
          ≡ Some (record b { armed = armed })
      by true is rest there =
          let same : other ≡ b = cc in
          ap (λ (t : Bool). if t then Some (record other { armed = armed }) else named name breakpoints) is
          ∙ ap (λ (x : Breakpoint). Some (record x { armed = armed })) same
      by false is rest there =
          ap (λ (t : Bool). if t then Some other else named name (with_mark name armed breakpoints)) is ∙ rest there

  pub marked_back : (armed : Bool) (breakpoints : List Breakpoint) (b : Breakpoint) → named name breakpoints ≡ Some b
      → with_mark name b.armed (with_mark name armed breakpoints) ≡ breakpoints
  marked_back armed [] b there = refl
  marked_back armed (other ∷ breakpoints) b there =
      by (bytes_eq name other.name) refl (λ rest. marked_back armed breakpoints b rest) there
    where
      by : (t : Bool) → bytes_eq name other.name ≡ t
          → (named name breakpoints ≡ Some b → with_mark name b.armed (with_mark name armed breakpoints) ≡ breakpoints)
          → (if t then Some other else named name breakpoints) ≡ Some b
          → with_mark name b.armed (if t then record other { armed = armed } ∷ breakpoints else other ∷ with_mark name armed breakpoints)
          ≡ other ∷ breakpoints
      by true is rest there =
          let same : b ≡ other = cc in
          ap (λ (t : Bool). if t then record other { armed = b.armed } ∷ breakpoints
          else record other { armed = armed } ∷ with_mark name b.armed breakpoints) is
          ∙ ap (λ (x : Breakpoint). record other { armed = x.armed } ∷ breakpoints) same
      by false is rest there =
          ap (λ (t : Bool). if t then record other { armed = b.armed } ∷ with_mark name armed breakpoints
          else other ∷ with_mark name b.armed (with_mark name armed breakpoints)) is
          ∙ ap (λ (l : List Breakpoint). other ∷ l) (rest there)

-- an unarmed breakpoint was found
pub found_unarmed : (o : Option Breakpoint) → arm_refusal o ≡ None → (b : Breakpoint) × (o ≡ Some b) × (b.armed ≡ false)
found_unarmed None e = cc
found_unarmed (Some b) e = (b, refl, by b.armed e)
  where
    by : (t : Bool) → (if t then Some AlreadyArmed else None) ≡ None → t ≡ false
    by true e = cc
    by false e = refl

-- a breakpoint that may be passed was found
pub found_armed : (P : Program) (H : History) (o : Option Breakpoint) → MayPass P H o
    → (b : Breakpoint) × (o ≡ Some b) × (b.armed ≡ true)
found_armed P H None may = absurd may
found_armed P H (Some b) may = (b, refl, may.0)

-- a name under which a breakpoint may be set is free
pub free_name : (name : List ℕ) (breakpoints : List Breakpoint) → name_refusal name breakpoints ≡ None → named name breakpoints ≡ None
free_name name breakpoints = by (named name breakpoints)
  where
    by : (o : Option Breakpoint)
        → (if is_some o then Some BreakTaken else (if nat_lt (length breakpoints) BREAKPOINTS then None else Some BreaksFull)) ≡ None
        → o ≡ None
    by None e = refl
    by (Some b) e = cc
