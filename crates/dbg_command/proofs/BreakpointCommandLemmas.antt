-- The answer to a command about a breakpoint.
use Rattle.std.proofs.Common.{◌≡◌, ◌≢◌, ◌⊎◌, inl, inr, ℕ, ◌<◌, Bool, true, false, List, [], ◌∷◌, ◌++◌, length, Option, Some, None, Ok, Err}
use Rattle.std.proofs.Common.{refl, sym, ap, ◌∙◌, subst, MatchBool, arith}
use Rattle.std.specs.Prelude.{if◌then◌else◌}
use Rattle.dbg_base.specs.declared.said.Done.TheVariants.{Plain}
use Rattle.dbg_base.specs.declared.said.Reply.{Reply}
use Rattle.dbg_base.specs.declared.said.Said.TheVariants.{Accepted, Refused}
use Rattle.dbg_base.specs.declared.refusal.Refusal.{Refusal}
use Rattle.dbg_base.specs.declared.refusal.Refusal.TheVariants as refusals
use Rattle.dbg_base.specs.Trees.{Program}
use Rattle.dbg_base.specs.Histories.{History}
use Rattle.dbg_base.specs.Predicates.{Conjunct, NoCut}
use Rattle.dbg_base.specs.SystemStates.{history_of}
use Rattle.dbg_base.specs.Breakpoints.{Breakpoint, named, without, with_mark, name_refusal, HasCut}
use Rattle.dbg_base.specs.ModelStates.{ModelState}
use Rattle.dbg_base.specs.Calls.{Break, Clear, Arm, Pass}
use Rattle.dbg_base.specs.Acts.{Lists, Refuses, WithFound, Arms, Passes, Sets, break_refusal, first_refusal, conjuncts_refusal}
use Rattle.causal_world.specs.Scenes.{Scene}
use Rattle.break_book.specs.Books.{Entry, breakpoints_of, AreDetectorsOf, arm_refusal, MayPass, CannotPass, new_breakpoint}
use Rattle.dbg_command.specs.Tables.{IsTableOf, Replies, Adds, state_of, ActsOrRefuses}
use Rattle.dbg_command.proofs.CommandAnswerLemmas.{accepted, refused}

-- another list of breakpoints, with detectors of the same world
pub keeps_table : (P : Program) (w : Scene) (book new : List Entry)
    → ((v : Scene) → AreDetectorsOf v book → AreDetectorsOf v new) → IsTableOf P (record { world = w; book = book })
    → IsTableOf P (record { world = w; book = new })
keeps_table P w book new keeps is = record { world = is.world; detectors = keeps w is.detectors }

-- conjuncts that fit, at least one, under a name that is free
may_break : (P : Program) (M : ModelState) (name : List ℕ) (conjuncts : List Conjunct) → 0 < length conjuncts
    → conjuncts_refusal P [] conjuncts ≡ None → name_refusal name M.breakpoints ≡ None → break_refusal P M name conjuncts ≡ None
may_break P M name [] some fit free = absurd (omega (arith, some))
may_break P M name (conjunct ∷ conjuncts) some fit free =
    ap (λ (r : Option Refusal). first_refusal r (name_refusal name M.breakpoints)) fit ∙ free

module _ (P : Program) (w : Scene) (book new : List Entry) (reply : Reply)
    (replies : Replies P (state_of (record { world = w; book = new })) Plain reply) where
  abbrev before : ModelState
  before = state_of (record { world = w; book = book })

  abbrev after : ModelState
  after = state_of (record { world = w; book = new })

  lists : (breakpoints : List Breakpoint) → breakpoints_of new ≡ breakpoints → Lists P breakpoints before (Accepted reply) after
  lists breakpoints e = (
    accepted P after Plain reply replies,
    ap (λ (l : List Breakpoint). record { system = w.state; breakpoints = l }) e,
  )

  pub sets : (name : List ℕ) (conjuncts : List Conjunct) → 0 < length conjuncts → conjuncts_refusal P [] conjuncts ≡ None
      → Adds book name conjuncts new → ActsOrRefuses P (Break name conjuncts) before (Ok reply) after
  sets name conjuncts some fit adds =
      inl (subst (λ (r : Option Refusal). Sets r P name conjuncts before (Accepted reply) after)
      (sym (may_break P before name conjuncts some fit adds.free))
      (lists (breakpoints_of book ++ new_breakpoint name conjuncts ∷ []) adds.added))

  pub clears : (name : List ℕ) (b : Breakpoint) → named name (breakpoints_of book) ≡ Some b
      → breakpoints_of new ≡ without name (breakpoints_of book) → ActsOrRefuses P (Clear name) before (Ok reply) after
  clears name b there e =
      inl (subst (λ (o : Option Breakpoint). WithFound o
      (λ c. Lists P (without name (breakpoints_of book)) before (Accepted reply) after) before (Accepted reply) after)
      (sym there) (lists (without name (breakpoints_of book)) e))

  found_unarmed : (name : List ℕ) (o : Option Breakpoint) → arm_refusal o ≡ None
      → Lists P (with_mark name true (breakpoints_of book)) before (Accepted reply) after
      → WithFound o (λ b. Arms P name b before (Accepted reply) after) before (Accepted reply) after
  found_unarmed name None e does = cc
  found_unarmed name (Some b) e does = by b.armed e
    where
      by : (t : Bool) → (if t then Some refusals.AlreadyArmed else None) ≡ None
          → MatchBool t (Refuses refusals.AlreadyArmed before (Accepted reply) after)
          (Lists P (with_mark name true (breakpoints_of book)) before (Accepted reply) after)
      by true h = cc
      by false h = does

  pub arms : (name : List ℕ) → arm_refusal (named name (breakpoints_of book)) ≡ None
      → breakpoints_of new ≡ with_mark name true (breakpoints_of book) → ActsOrRefuses P (Arm name) before (Ok reply) after
  arms name unarmed e =
      inl (found_unarmed name (named name (breakpoints_of book)) unarmed (lists (with_mark name true (breakpoints_of book)) e))

  found_passed : (name : List ℕ) (o : Option Breakpoint) → MayPass P (history_of w.state) o
      → Lists P (with_mark name false (breakpoints_of book)) before (Accepted reply) after
      → WithFound o (λ b. Passes P name b before (Accepted reply) after) before (Accepted reply) after
  found_passed name None may does = absurd may
  found_passed name (Some b) may does =
      subst (λ (t : Bool). MatchBool t
      ((HasCut P (history_of w.state) b × Lists P (with_mark name false (breakpoints_of book)) before (Accepted reply) after)
      ⊎ (NoCut P (history_of w.state) b.conjuncts × Refuses refusals.NoCut before (Accepted reply) after))
      (Refuses refusals.NotArmed before (Accepted reply) after))
      (sym may.0) (inl (may.1, does))

  pub passes : (name : List ℕ) → MayPass P (history_of w.state) (named name (breakpoints_of book))
      → breakpoints_of new ≡ with_mark name false (breakpoints_of book) → ActsOrRefuses P (Pass name) before (Ok reply) after
  passes name may e =
      inl (found_passed name (named name (breakpoints_of book)) may (lists (with_mark name false (breakpoints_of book)) e))

not_passed_found : (P : Program) (M : ModelState) (name : List ℕ) (refusal : Refusal) (o : Option Breakpoint)
    → CannotPass P (history_of M.system) o refusal
    → WithFound o (λ b. Passes P name b M (Refused refusal) M) M (Refused refusal) M
not_passed_found P M name refusal None e = refused M M refusal refusals.UnknownBreak e refl
not_passed_found P M name refusal (Some b) cannot = by b.armed cannot
  where
    by : (t : Bool)
        → MatchBool t (NoCut P (history_of M.system) b.conjuncts × (refusal ≡ refusals.NoCut)) (refusal ≡ refusals.NotArmed)
        → MatchBool t
        ((HasCut P (history_of M.system) b × Lists P (with_mark name false M.breakpoints) M (Refused refusal) M)
        ⊎ (NoCut P (history_of M.system) b.conjuncts × Refuses refusals.NoCut M (Refused refusal) M))
        (Refuses refusals.NotArmed M (Refused refusal) M)
    by true h = inr (h.0, refused M M refusal refusals.NoCut h.1 refl)
    by false h = refused M M refusal refusals.NotArmed h refl

pub not_passed : (P : Program) (M : ModelState) (name : List ℕ) (refusal : Refusal)
    → CannotPass P (history_of M.system) (named name M.breakpoints) refusal → ActsOrRefuses P (Pass name) M (Err refusal) M
not_passed P M name refusal cannot = inl (not_passed_found P M name refusal (named name M.breakpoints) cannot)

-- and not because memory ran out
pub not_for_memory : (P : Program) (H : History) (o : Option Breakpoint) (refusal : Refusal) → CannotPass P H o refusal
    → refusal ≢ refusals.Memory
not_for_memory P H None refusal is = λ memory. cc
not_for_memory P H (Some b) refusal cannot = by b.armed cannot
  where
    by : (t : Bool) → MatchBool t (NoCut P H b.conjuncts × (refusal ≡ refusals.NoCut)) (refusal ≡ refusals.NotArmed)
        → refusal ≢ refusals.Memory
    by true (h, is) = λ memory. cc
    by false is = λ memory. cc
