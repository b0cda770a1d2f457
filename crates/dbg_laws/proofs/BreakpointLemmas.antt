-- The breakpoints after an accepted command are those of the definition, whatever the state.
use Rattle.std.proofs.Common.{◌≡◌, inl, inr, ⊎_elim, ℕ, Bool, true, false, List, [], ◌∷◌, ◌++◌, length, Option, Some, None, Result, Ok, Err}
use Rattle.std.proofs.Common.{ap, MatchBool}
use Rattle.std.specs.Prelude.{nat_lt}
use Rattle.dbg_base.specs.declared.said.Done.{Done}
use Rattle.dbg_base.specs.declared.said.Done.TheVariants.{Played, Undone, Places, Plain}
use Rattle.dbg_base.specs.declared.said.Reply.{Reply}
use Rattle.dbg_base.specs.declared.said.Said.TheVariants.{Accepted}
use Rattle.dbg_base.specs.declared.refusal.Refusal.{Refusal}
use Rattle.dbg_base.specs.declared.refusal.Refusal.TheVariants as refusals
use Rattle.dbg_base.specs.Trees.{Program}
use Rattle.dbg_base.specs.Breakpoints.{Breakpoint, named, HasCut, with_mark}
use Rattle.dbg_base.specs.Predicates.{Conjunct}
use Rattle.dbg_base.specs.SystemStates.{SystemState, place_at, history_of, after_choice, after_redo}
use Rattle.dbg_base.specs.ModelStates.{ModelState}
use Rattle.dbg_base.specs.Choices.{step_choice, next_choice, redo_choice}
use Rattle.dbg_base.specs.Calls.{Plan, Step, Next, Undo, Redo, Rollback, Goto, Break, Clear, Arm, Pass}
use Rattle.dbg_base.specs.Acts.{Accepts, Refuses, Plays, UnlessHalted, TakesBack, KeepsEvent, RollsBack, WithProcess, WithFound, GoesTo, HasNone, Lists, Sets}
use Rattle.dbg_base.specs.Acts.{Acts, break_refusal}
use Rattle.dbg_laws.specs.Transcripts.{breakpoints_after}

module _ (P : Program) (M : ModelState) (reply : Reply) (M' : ModelState) where
  pub refused : {Goal : Type 0} (refusal : Refusal) → Refuses refusal M (Accepted reply) M' → Goal
  refused refusal reported = let wrong = reported.0 in absurd (let e : Accepted reply ≡ _ = wrong in cc)

  pub either : {A B Goal : Type 0} (t : Bool) → (A → Goal) → (B → Goal) → MatchBool t A B → Goal
  either true first second = first
  either false first second = second

  pub with_process : {Goal : Type 0} (p : ℕ) (Does : Type 0) → (Does → Goal) → WithProcess P p Does M (Accepted reply) M' → Goal
  with_process p Does does = either (nat_lt p (length P)) does (refused refusals.UnknownProcess)

  with_break : {Goal : Type 0} (found : Option Breakpoint) (Does : Breakpoint → Type 0) → ((b : Breakpoint) → Does b → Goal)
      → WithFound found Does M (Accepted reply) M' → Goal
  with_break None Does does = refused refusals.UnknownBreak
  with_break (Some b) Does does = does b

  pub unless_halted : {Goal : Type 0} (Does : Type 0) → (Does → Goal) → UnlessHalted P Does M (Accepted reply) M' → Goal
  unless_halted Does does (inl goes) = does goes.1
  unless_halted Does does (inr (name, is, reported)) = refused (refusals.Halted name) reported

  abbrev Kept : Type 0
  Kept = M'.breakpoints ≡ M.breakpoints

  plays : (p : ℕ) (choice : Result ℕ Refusal) (after : ℕ → SystemState) → Plays P p choice after M (Accepted reply) M' → Kept
  plays p (Ok k) after reported = ap (λ (K : ModelState). K.breakpoints) reported.1
  plays p (Err refusal) after reported = refused refusal reported

  lists : (breakpoints : List Breakpoint) → Lists P breakpoints M (Accepted reply) M' → M'.breakpoints ≡ breakpoints
  lists breakpoints reported = ap (λ (K : ModelState). K.breakpoints) reported.1

  sets : (o : Option Refusal) (name : List ℕ) (conjuncts : List Conjunct) → Sets o P name conjuncts M (Accepted reply) M'
      → M'.breakpoints ≡ M.breakpoints ++ record { name = name; conjuncts = conjuncts; armed = true } ∷ []
  sets (Some refusal) name conjuncts = refused refusal
  sets None name conjuncts = lists _

  pub breakpoints_are : (plan : Plan) → Acts P plan M (Accepted reply) M' → M'.breakpoints ≡ breakpoints_after plan M.breakpoints
  breakpoints_are (Step p k) =
      with_process p _ (unless_halted _ (plays p (step_choice P M.system p k) (after_choice M.system p)))
  breakpoints_are (Next p) = with_process p _ (unless_halted _ (plays p (next_choice P M.system p) (after_choice M.system p)))
  breakpoints_are (Redo p) = with_process p _ (unless_halted _ (plays p (redo_choice P M.system p) (λ k. after_redo M.system p)))
  breakpoints_are (Undo p) =
      with_process p _
      (⊎_elim (λ (takes : TakesBack P p M (Accepted reply) M'). ap (λ (K : ModelState). K.breakpoints) takes.left)
      (λ (keeps : KeepsEvent P p M (Accepted reply) M'). refused keeps.refusal keeps.reported))
  breakpoints_are (Rollback p n) =
      with_process p _
      (either (nat_lt (place_at M.system p) n) (refused refusals.BadPlace)
      (λ (back : RollsBack P p n M (Accepted reply) M'). ap (λ (K : ModelState). K.breakpoints) back.left))
  breakpoints_are (Goto name) =
      with_break (named name M.breakpoints) _
      (λ b. ⊎_elim (λ (goes : GoesTo P b M (Accepted reply) M'). ap (λ (K : ModelState). K.breakpoints) goes.left)
      (λ (none : HasNone P M b × Refuses refusals.NoCut M (Accepted reply) M'). refused refusals.NoCut none.1))
  breakpoints_are (Break name conjuncts) = sets (break_refusal P M name conjuncts) name conjuncts
  breakpoints_are (Clear name) = with_break (named name M.breakpoints) _ (λ b. lists _)
  breakpoints_are (Arm name) =
      with_break (named name M.breakpoints) _ (λ b. either b.armed (refused refusals.AlreadyArmed) (lists _))
  breakpoints_are (Pass name) =
      with_break (named name M.breakpoints) _
      (λ b. either b.armed
      (⊎_elim
      (λ (passes : HasCut P (history_of M.system) b × Lists P (with_mark name false M.breakpoints) M (Accepted reply) M'). lists _ passes.1)
      (λ (none : HasNone P M b × Refuses refusals.NoCut M (Accepted reply) M'). refused refusals.NoCut none.1))
      (refused refusals.NotArmed))

  -- an accepted command has an accepted reply
  abbrev pub HasReply : Type 0
  HasReply = (done : Done) × Accepts P done (Accepted reply) M'

  plays_so : (p : ℕ) (choice : Result ℕ Refusal) (after : ℕ → SystemState) → Plays P p choice after M (Accepted reply) M' → HasReply
  plays_so p (Ok k) after reported = (Played (record { 0 = p }) (record { 0 = k }), reported.0)
  plays_so p (Err refusal) after reported = refused refusal reported

  sets_so : (o : Option Refusal) (name : List ℕ) (conjuncts : List Conjunct) → Sets o P name conjuncts M (Accepted reply) M' → HasReply
  sets_so (Some refusal) name conjuncts reported = refused refusal reported
  sets_so None name conjuncts reported = (Plain, reported.0)

  lists_so : (breakpoints : List Breakpoint) → Lists P breakpoints M (Accepted reply) M' → HasReply
  lists_so breakpoints reported = (Plain, reported.0)

  pub accepted_by : (plan : Plan) → Acts P plan M (Accepted reply) M' → HasReply
  accepted_by (Step p k) =
      with_process p _ (unless_halted _ (plays_so p (step_choice P M.system p k) (after_choice M.system p)))
  accepted_by (Next p) = with_process p _ (unless_halted _ (plays_so p (next_choice P M.system p) (after_choice M.system p)))
  accepted_by (Redo p) = with_process p _ (unless_halted _ (plays_so p (redo_choice P M.system p) (λ k. after_redo M.system p)))
  accepted_by (Undo p) =
      with_process p _
      (⊎_elim (λ (takes : TakesBack P p M (Accepted reply) M'). (Undone (record { 0 = p }) (record { 0 = takes.choice }), takes.reported))
      (λ (keeps : KeepsEvent P p M (Accepted reply) M'). refused keeps.refusal keeps.reported))
  accepted_by (Rollback p n) =
      with_process p _
      (either (nat_lt (place_at M.system p) n) (refused refusals.BadPlace)
      (λ (back : RollsBack P p n M (Accepted reply) M'). (Places back.cut, back.reported)))
  accepted_by (Goto name) =
      with_break (named name M.breakpoints) _
      (λ b. ⊎_elim (λ (goes : GoesTo P b M (Accepted reply) M'). (Places goes.cut, goes.reported))
      (λ (none : HasNone P M b × Refuses refusals.NoCut M (Accepted reply) M'). refused refusals.NoCut none.1))
  accepted_by (Break name conjuncts) = sets_so (break_refusal P M name conjuncts) name conjuncts
  accepted_by (Clear name) = with_break (named name M.breakpoints) _ (λ b. lists_so _)
  accepted_by (Arm name) =
      with_break (named name M.breakpoints) _ (λ b. either b.armed (refused refusals.AlreadyArmed) (lists_so _))
  accepted_by (Pass name) =
      with_break (named name M.breakpoints) _
      (λ b. either b.armed
      (⊎_elim
      (λ (passes : HasCut P (history_of M.system) b × Lists P (with_mark name false M.breakpoints) M (Accepted reply) M').
      lists_so _ passes.1)
      (λ (none : HasNone P M b × Refuses refusals.NoCut M (Accepted reply) M'). refused refusals.NoCut none.1))
      (refused refusals.NotArmed))
