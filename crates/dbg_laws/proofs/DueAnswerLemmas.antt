-- The answer that is due to a call is neither "out of memory" nor "journal full". Only calls that are not entered get these two.
use Rattle.std.proofs.Common.{◌≡◌, inl, inr, ⊎_elim, ℕ, ◌+◌, Bool, true, false, ◌&&◌, cond, List, [], ◌∷◌, length}
use Rattle.std.proofs.Common.{Option, Some, None, is_some, Result, Ok, Err, sym, subst, MatchBool}
use Rattle.std.specs.Prelude.{nat_lt, slice_get, ok_or, not, ◌==◌, ℤ}
use Rattle.std.specs.List.{list_any}
use Rattle.dbg_base.specs.declared.said.Said.{Said}
use Rattle.dbg_base.specs.declared.said.Said.TheVariants.{Answered, Refused}
use Rattle.dbg_base.specs.declared.said.Done.{Done}
use Rattle.dbg_base.specs.declared.said.Done.TheVariants.{Played, Undone, Places, Plain}
use Rattle.dbg_base.specs.declared.said.Answer.{Answer}
use Rattle.dbg_base.specs.declared.refusal.Refusal.{Refusal}
use Rattle.dbg_base.specs.declared.refusal.Refusal.TheVariants as refusals
use Rattle.dbg_base.specs.declared.limits.TheConstants.{EVENTS, BREAKPOINTS}
use Rattle.dbg_base.specs.declared.expr.Sort.TheVariants as sort
use Rattle.dbg_base.specs.Trees.{Program, Action, Local, Sends, Receives, Command, process_of, command_of}
use Rattle.dbg_base.specs.WellFormed.{is_fit, bounds_of}
use Rattle.dbg_base.specs.Configurations.{Configuration, state_in, channel_of, with_channel}
use Rattle.dbg_base.specs.Evaluation.{evaluate}
use Rattle.dbg_base.specs.Firing.{Effect, effect_of, complete, receive, proceed, truth_of, where_true, fire_if, fire}
use Rattle.dbg_base.specs.Predicates.{Conjunct}
use Rattle.dbg_base.specs.Breakpoints.{Breakpoint, named, name_refusal, with_mark, HasCut}
use Rattle.dbg_base.specs.SystemStates.{SystemState, line_of, place_at, configuration_of, history_of}
use Rattle.dbg_base.specs.ModelStates.{ModelState}
use Rattle.dbg_base.specs.Choices.{CannotUndo, if_fires, step_choice, next_choice, choice_again, redo_choice, lowest_enabled}
use Rattle.dbg_base.specs.Calls.{Plan, Step, Next, Undo, Redo, Rollback, Goto, Break, Clear, Arm, Pass, Order, One, Batch}
use Rattle.dbg_base.specs.Calls.{Call, Give, Back, Ask}
use Rattle.dbg_base.specs.Calls.{Query, Vars, Chan, Clock, Place, Can, CutOf, Why, Breaks}
use Rattle.dbg_base.specs.Acts.{Refuses, Accepts, Plays, UnlessHalted, TakesBack, KeepsEvent, WithProcess, WithFound, RollsBack}
use Rattle.dbg_base.specs.Acts.{GoesTo, HasNone, Lists, Sets, conjuncts_refusal, first_refusal, break_refusal, Acts, Batches, Follows}
use Rattle.dbg_base.specs.Views.{AboutFound, TellsClock, TellsUndo, TellsWhy, TellsCut, TellsFrontier, Answers}
use Rattle.dbg_base.specs.Reversal.{without_back}
use Rattle.dbg_base.specs.Journals.{Given, AnswersBack, LeadsTo, IsDue, last_given}
use Rattle.dbg_laws.specs.Reported.{IsReported}
use Rattle.dbg_laws.proofs.AnswerFitLemmas.{one_of}

-- Why a process makes no choice, and why no breakpoint is set.

abbrev Fires : {A : Type 0} → Result A Refusal → Type 0
Fires (Ok made) = Unit {0}
Fires (Err refusal) = IsReported (Refused refusal)

abbrev Sound : Option Refusal → Type 0
Sound None = Unit {0}
Sound (Some refusal) = IsReported (Refused refusal)

completes : (c : Configuration) (p : ℕ) (action : Action) (effect : Option Effect) → Fires (complete c p action effect)
completes c p action None = tt
completes c p action (Some effect) = tt

receives : (command : Command) (c : Configuration) (p source : ℕ) (messages : List ℤ) → Fires (receive command c p source messages)
receives command c p source [] = tt
receives command c p source (message ∷ messages) =
    completes (with_channel c source p messages) p command.action (effect_of command (state_in c p) (Some message))

proceeds : (command : Command) (action : Action) (c : Configuration) (p : ℕ) → Fires (proceed command action c p)
proceeds command Local c p = completes c p Local (effect_of command (state_in c p) None)
proceeds command (Sends target value) c p = completes c p (Sends target value) (effect_of command (state_in c p) None)
proceeds command (Receives source variable) c p = receives command c p source (channel_of c source p)

guarded : (truth : Option Bool) (next : Result Configuration Refusal) → Fires next → Fires (where_true truth next)
guarded None next fires = tt
guarded (Some false) next fires = tt
guarded (Some true) next fires = fires

fires_if : (command : Option Command) (c : Configuration) (p : ℕ) → Fires (fire_if command c p)
fires_if None c p = tt
fires_if (Some command) c p = guarded (truth_of (evaluate command.guard (state_in c p))) _ (proceeds command command.action c p)

chosen : (k : ℕ) (result : Result Configuration Refusal) → Fires result → Fires (if_fires k result)
chosen k (Ok c) fires = tt
chosen k (Err refusal) fires = fires

some_choice : (choice : Option ℕ) → Fires (ok_or choice refusals.NoneEnabled)
some_choice None = tt
some_choice (Some k) = tt

module _ (P : Program) (M : SystemState) (p : ℕ) where
  fires : (k : ℕ) → Fires (if_fires k (fire P (configuration_of P M) p k))
  fires k = chosen k (fire P (configuration_of P M) p k) (fires_if (command_of P p k) (configuration_of P M) p)

  step_fires : (k : ℕ) → Fires (step_choice P M p k)
  step_fires k =
      one_of Fires (nat_lt k (length (process_of P p).commands)) _ _ (one_of Fires (nat_lt (place_at M p) EVENTS) _ _ (fires k) tt) tt

  next_fires : Fires (next_choice P M p)
  next_fires = one_of Fires (nat_lt (place_at M p) EVENTS) _ _ (some_choice (lowest_enabled P (configuration_of P M) p)) tt

  again_fires : (choice : Option ℕ) → Fires (choice_again P (configuration_of P M) p choice)
  again_fires None = tt
  again_fires (Some k) = fires k

conjuncts_sound : (P : Program) (before : List ℕ) (conjuncts : List Conjunct) → Sound (conjuncts_refusal P before conjuncts)
conjuncts_sound P before [] = tt
conjuncts_sound P before (c ∷ conjuncts) =
    one_of Sound (nat_lt c.process (length P)) _ _
    (one_of Sound (is_fit (bounds_of P c.process) sort.Truth c.expression && not (list_any (λ p. p == c.process) before)) _ _
    (conjuncts_sound P (c.process ∷ before) conjuncts) tt) tt

first_sound : (first other : Option Refusal) → Sound first → Sound other → Sound (first_refusal first other)
first_sound None other a b = b
first_sound (Some refusal) other a b = a

name_sound : (name : List ℕ) (breakpoints : List Breakpoint) → Sound (name_refusal name breakpoints)
name_sound name breakpoints =
    one_of Sound (is_some (named name breakpoints)) _ _ tt (one_of Sound (nat_lt (length breakpoints) BREAKPOINTS) _ _ tt tt)

break_sound : (P : Program) (M : ModelState) (name : List ℕ) (conjuncts : List Conjunct) → Sound (break_refusal P M name conjuncts)
break_sound P M name [] = tt
break_sound P M name (c ∷ conjuncts) =
    first_sound (conjuncts_refusal P [] (c ∷ conjuncts)) _ (conjuncts_sound P [] (c ∷ conjuncts)) (name_sound name M.breakpoints)

cannot_undo : (P : Program) (M : SystemState) (p : ℕ) (refusal : Refusal) → CannotUndo P M p refusal → IsReported (Refused refusal)
cannot_undo P M p refusals.Memory why = why
cannot_undo P M p refusals.JournalFull why = why
cannot_undo P M p refusal why = tt

-- The answer at a state.

either : {A B C : Type 0} (t : Bool) → (A → C) → (B → C) → MatchBool t A B → C
either true first second = first
either false first second = second

says : (said other : Said) → said ≡ other → IsReported other → IsReported said
says said other e reported = subst IsReported (sym e) reported

module _ (P : Program) (M : ModelState) (said : Said) (M' : ModelState) where
  refused : (refusal : Refusal) → IsReported (Refused refusal) → Refuses refusal M said M' → IsReported said
  refused refusal reported e = says said (Refused refusal) e.0 reported

  accepted : (done : Done) → Accepts P done said M' → IsReported said
  accepted done a = says said _ a.reported tt

  with_process : (p : ℕ) (Does : Type 0) → (Does → IsReported said) → WithProcess P p Does M said M' → IsReported said
  with_process p Does does = either (nat_lt p (length P)) does (refused refusals.UnknownProcess tt)

  with_break : (found : Option Breakpoint) (Does : Breakpoint → Type 0) → ((b : Breakpoint) → Does b → IsReported said)
      → WithFound found Does M said M' → IsReported said
  with_break None Does does = refused refusals.UnknownBreak tt
  with_break (Some b) Does does = does b

  lists : (breakpoints : List Breakpoint) → Lists P breakpoints M said M' → IsReported said
  lists breakpoints reported = accepted Plain reported.0

  plays : (p : ℕ) (choice : Result ℕ Refusal) (after : ℕ → SystemState) → Fires choice → Plays P p choice after M said M' → IsReported said
  plays p (Ok k) after fires reported = accepted (Played (record { 0 = p }) (record { 0 = k })) reported.0
  plays p (Err refusal) after fires reported = refused refusal fires reported

  unless_halted : (Does : Type 0) → (Does → IsReported said) → UnlessHalted P Does M said M' → IsReported said
  unless_halted Does does (inl goes) = does goes.1
  unless_halted Does does (inr (name, is, reported)) = refused (refusals.Halted name) tt reported

  no_cut : (b : Breakpoint) → HasNone P M b × Refuses refusals.NoCut M said M' → IsReported said
  no_cut b none = refused refusals.NoCut tt none.1

  sets : (refusal : Option Refusal) (name : List ℕ) (conjuncts : List Conjunct) → Sound refusal → Sets refusal P name conjuncts M said M'
      → IsReported said
  sets (Some refusal) name conjuncts sound = refused refusal sound
  sets None name conjuncts sound = lists _

  acts_reported : (plan : Plan) → Acts P plan M said M' → IsReported said
  acts_reported (Step p k) =
      with_process p _ (unless_halted _ (plays p (step_choice P M.system p k) _ (step_fires P M.system p k)))
  acts_reported (Next p) = with_process p _ (unless_halted _ (plays p (next_choice P M.system p) _ (next_fires P M.system p)))
  acts_reported (Redo p) =
      with_process p _ (unless_halted _ (plays p (redo_choice P M.system p) _
      (again_fires P M.system p (slice_get (line_of M.system p) (place_at M.system p)))))
  acts_reported (Undo p) =
      with_process p _ (⊎_elim
      (λ (takes : TakesBack P p M said M'). accepted (Undone (record { 0 = p }) (record { 0 = takes.choice })) takes.reported)
      (λ (keeps : KeepsEvent P p M said M'). refused keeps.refusal (cannot_undo P M.system p keeps.refusal keeps.why) keeps.reported))
  acts_reported (Rollback p n) =
      with_process p _ (either (nat_lt (place_at M.system p) n) (refused refusals.BadPlace tt)
      (λ (back : RollsBack P p n M said M'). accepted (Places back.cut) back.reported))
  acts_reported (Goto name) =
      with_break (named name M.breakpoints) _
      (λ b. ⊎_elim (λ (goes : GoesTo P b M said M'). accepted (Places goes.cut) goes.reported) (no_cut b))
  acts_reported (Break name conjuncts) = sets (break_refusal P M name conjuncts) name conjuncts (break_sound P M name conjuncts)
  acts_reported (Clear name) = with_break (named name M.breakpoints) _ (λ b. lists _)
  acts_reported (Arm name) =
      with_break (named name M.breakpoints) _ (λ b. either b.armed (refused refusals.AlreadyArmed tt) (lists _))
  acts_reported (Pass name) =
      with_break (named name M.breakpoints) _ (λ b. either b.armed
      (⊎_elim (λ (passes : HasCut P (history_of M.system) b × Lists P (with_mark name false M.breakpoints) M said M').
      lists _ passes.1) (no_cut b))
      (refused refusals.NotArmed tt))

  batch_reported : (between : ModelState) (at : ℕ) (plans : List Plan) → Batches P M at plans between said M' → IsReported said
  batch_reported between at [] reported = accepted Plain reported.0
  batch_reported between at (plan ∷ plans) (inl (reply, next, acts, others)) = batch_reported next (at + 1) plans others
  batch_reported between at (plan ∷ plans) (inr (refusal, acts, reported)) = refused _ tt reported

  follows_reported : (order : Order) → Follows P order M said M' → IsReported said
  follows_reported (One plan) = acts_reported plan
  follows_reported (Batch plans) = batch_reported M 1 plans

module _ (P : Program) (M : ModelState) (said : Said) where
  of_break : (found : Option Breakpoint) (Tells : Breakpoint → Type 0) → ((b : Breakpoint) → Tells b → IsReported said)
      → AboutFound found Tells said → IsReported said
  of_break None Tells tells e = says said _ e tt
  of_break (Some b) Tells tells reported = tells b reported

  of_process : (p : ℕ) (Tells : Type 0) → (Tells → IsReported said)
      → MatchBool (nat_lt p (length P)) Tells (said ≡ Refused refusals.UnknownProcess) → IsReported said
  of_process p Tells tells = either (nat_lt p (length P)) tells (λ e. says said _ e tt)

  about_reported : (t : Bool) (answer : Answer) → said ≡ cond t (Answered answer) (Refused refusals.UnknownProcess) → IsReported said
  about_reported t answer e = says said _ e (one_of IsReported t _ _ tt tt)

  answers_reported : (query : Query) → Answers P M query said → IsReported said
  answers_reported (Vars p) e = about_reported _ _ e
  answers_reported (Chan i j) e = about_reported _ _ e
  answers_reported (Clock p) e = of_process p (TellsClock P M.system p said) (λ tells. says said _ tells.reported tt) e
  answers_reported (Place p) e = about_reported _ _ e
  answers_reported (Can p) e =
      of_process p (TellsUndo P M.system p said) (⊎_elim (λ may. says said _ may.1 tt)
      (λ (tells : TellsWhy P M.system p said). says said _ tells.reported tt)) e
  answers_reported (CutOf name) e =
      of_break (named name M.breakpoints) (λ b. TellsCut P M b said)
      (λ b. ⊎_elim (λ least. says said _ least.2 tt) (λ none. says said _ none.1 tt)) e
  answers_reported (Why name) e =
      of_break (named name M.breakpoints) (λ b. TellsFrontier P M b said) (λ b tells. says said _ tells.reported tt) e
  answers_reported Breaks e = says said _ e tt

back_reported : (P : Program) (given : List Given) (seat : ℕ) (last : Option Given) (said : Said) → AnswersBack P given seat last said
    → IsReported said
back_reported P given seat None said e = says said _ e tt
back_reported P given seat (Some last) said back =
    either (last.seat == seat) (λ (takes : (M : ModelState) × LeadsTo P (without_back given) M × Accepts P Plain said M).
    says said _ takes.2.reported tt) (λ e. says said _ e tt) back

pub due_reported : (P : Program) (given : List Given) (seat : ℕ) (call : Call) (said : Said) → IsDue P given seat call said → IsReported said
due_reported P given seat (Give order) said (M, after, leads_to, follows) = follows_reported P M said after order follows
due_reported P given seat Back said back = back_reported P given seat (last_given given) said back
due_reported P given seat (Ask query) said (M, leads_to, answers) = answers_reported P M said query answers
