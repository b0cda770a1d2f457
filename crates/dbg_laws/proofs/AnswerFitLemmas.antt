-- The answer to a call fits the call: each process that it names is one of the program, and each of its lists has the right length.
use Rattle.std.proofs.Common.{◌≡◌, inl, inr, ⊎_elim, ℕ, suc, ◌+◌, ◌<◌, Bool, true, false, ◌&&◌, cond, List, [], ◌∷◌, length}
use Rattle.std.proofs.Common.{map, Option, Some, None, is_some, Result, Ok, Err, refl, sym, ap, ◌∙◌, subst, arith, MatchBool}
use Rattle.std.specs.Prelude.{nat_lt, slice_get, ok_or, not, ◌==◌}
use Rattle.std.specs.List.{list_any}
use Rattle.std.proofs.lemmas.Bool.{ltb-true}
use Rattle.dbg_base.specs.declared.said.Said.{Said}
use Rattle.dbg_base.specs.declared.said.Said.TheVariants.{Answered, Refused}
use Rattle.dbg_base.specs.declared.said.Done.{Done}
use Rattle.dbg_base.specs.declared.said.Done.TheVariants.{Played, Undone, Places, Plain}
use Rattle.dbg_base.specs.declared.said.Answer.{Answer}
use Rattle.dbg_base.specs.declared.said.Answer.TheVariants.{Values, Messages, Counts, PlaceOf, CanUndo, CutIs, Frontier, Marks}
use Rattle.dbg_base.specs.declared.refusal.Refusal.{Refusal}
use Rattle.dbg_base.specs.declared.refusal.Refusal.TheVariants as refusals
use Rattle.dbg_base.specs.Trees.{Program, process_of}
use Rattle.dbg_base.specs.WellFormed.{is_well_formed, is_fit, bounds_of}
use Rattle.dbg_base.specs.Configurations.{Configuration, values_of, channel_of}
use Rattle.dbg_base.specs.Firing.{fire}
use Rattle.dbg_base.specs.Histories.{History, IsPossible}
use Rattle.dbg_base.specs.Fits.{FitsRefusal, FitsDone, FitsAnswer, FitsCall}
use Rattle.dbg_base.specs.Predicates.{Conjunct, IsLeast, NoCut}
use Rattle.dbg_base.specs.Frontiers.{heads_of}
use Rattle.dbg_base.specs.Reversal.{MayUndo}
use Rattle.dbg_base.specs.Breakpoints.{Breakpoint, named, name_refusal, with_mark, HasCut}
use Rattle.dbg_base.specs.SystemStates.{SystemState, IsStateOf, line_of, place_at, history_of, configuration_of, last_choice}
use Rattle.dbg_base.specs.ModelStates.{ModelState}
use Rattle.dbg_base.specs.Choices.{CannotUndo, last_target, if_fires, step_choice, next_choice, choice_again, redo_choice, lowest_enabled}
use Rattle.dbg_base.specs.Calls.{Plan, Step, Next, Undo, Redo, Rollback, Goto, Break, Clear, Arm, Pass, Order, One, Batch}
use Rattle.dbg_base.specs.Calls.{Call, Give, Back, Ask}
use Rattle.dbg_base.specs.Calls.{Query, Vars, Chan, Clock, Place, Can, CutOf, Why, Breaks}
use Rattle.dbg_base.specs.Acts.{Refuses, Accepts, Plays, UnlessHalted, TakesBack, KeepsEvent, WithProcess, WithFound}
use Rattle.dbg_base.specs.Acts.{GoesTo, HasNone, Lists, Sets, conjuncts_refusal, first_refusal, break_refusal, Acts, Batches, Follows}
use Rattle.dbg_base.specs.Views.{about, AboutFound, TellsClock, TellsUndo, TellsWhy, TellsCut, TellsFrontier, mark_of, Answers}
use Rattle.dbg_base.specs.CommandLines.{give}
use Rattle.dbg_base.specs.Journals.{Given, AnswersBack, LeadsTo}
use Rattle.dbg_base.specs.Reversal.{without_back}
use Rattle.dbg_base.specs.declared.limits.TheConstants.{EVENTS, BREAKPOINTS}
use Rattle.dbg_base.specs.declared.expr.Sort.TheVariants as sort
use Rattle.dbg_laws.proofs.LineStates.{length_cut}
use Rattle.dbg_laws.proofs.ExistenceLemmas.{KeepsOrFits, keeps_or_fits, values_there, target_there}

-- Why a process makes no choice, and why no breakpoint is set: the refusals name no process.

abbrev Chooses : Program → Result ℕ Refusal → Type 0
Chooses P (Ok k) = Unit {0}
Chooses P (Err refusal) = FitsRefusal P refusal

pub one_of : {A : Type 0} (Fit : A → Type 0) (t : Bool) (x y : A) → Fit x → Fit y → Fit (cond t x y)
one_of Fit true x y a b = a
one_of Fit false x y a b = b

chosen : (P : Program) (c : Configuration) (k : ℕ) (result : Result Configuration Refusal) → KeepsOrFits P c result → Chooses P (if_fires k result)
chosen P c k (Ok d) fires = tt
chosen P c k (Err refusal) fires = fires

step_chooses : (P : Program) (M : SystemState) (p k : ℕ) → Chooses P (step_choice P M p k)
step_chooses P M p k =
    let c = configuration_of P M in
    one_of (Chooses P) (nat_lt k (length (process_of P p).commands)) _ _
    (one_of (Chooses P) (nat_lt (place_at M p) EVENTS) _ _ (chosen P c k (fire P c p k) (keeps_or_fits P c p k)) tt) tt

some_choice : (P : Program) (choice : Option ℕ) → Chooses P (ok_or choice refusals.NoneEnabled)
some_choice P None = tt
some_choice P (Some k) = tt

next_chooses : (P : Program) (M : SystemState) (p : ℕ) → Chooses P (next_choice P M p)
next_chooses P M p =
    one_of (Chooses P) (nat_lt (place_at M p) EVENTS) _ _ (some_choice P (lowest_enabled P (configuration_of P M) p)) tt

again_chooses : (P : Program) (c : Configuration) (p : ℕ) (choice : Option ℕ) → Chooses P (choice_again P c p choice)
again_chooses P c p None = tt
again_chooses P c p (Some k) = chosen P c k (fire P c p k) (keeps_or_fits P c p k)

abbrev IsEarned : Program → Option Refusal → Type 0
IsEarned P None = Unit {0}
IsEarned P (Some refusal) = FitsRefusal P refusal

conjuncts_earn : (P : Program) (before : List ℕ) (conjuncts : List Conjunct) → IsEarned P (conjuncts_refusal P before conjuncts)
conjuncts_earn P before [] = tt
conjuncts_earn P before (c ∷ conjuncts) =
    one_of (IsEarned P) (nat_lt c.process (length P)) _ _
    (one_of (IsEarned P) (is_fit (bounds_of P c.process) sort.Truth c.expression && not (list_any (λ p. p == c.process) before)) _ _
    (conjuncts_earn P (c.process ∷ before) conjuncts) tt) tt

first_earned : (P : Program) (first other : Option Refusal) → IsEarned P first → IsEarned P other → IsEarned P (first_refusal first other)
first_earned P None other a b = b
first_earned P (Some refusal) other a b = a

name_earns : (P : Program) (name : List ℕ) (breakpoints : List Breakpoint) → IsEarned P (name_refusal name breakpoints)
name_earns P name breakpoints =
    one_of (IsEarned P) (is_some (named name breakpoints)) _ _ tt (one_of (IsEarned P) (nat_lt (length breakpoints) BREAKPOINTS) _ _ tt tt)

break_earns : (P : Program) (M : ModelState) (name : List ℕ) (conjuncts : List Conjunct) → IsEarned P (break_refusal P M name conjuncts)
break_earns P M name [] = tt
break_earns P M name (c ∷ conjuncts) =
    first_earned P (conjuncts_refusal P [] (c ∷ conjuncts)) _ (conjuncts_earn P [] (c ∷ conjuncts)) (name_earns P name M.breakpoints)

-- The answer to a call, if the system is in a state of the program.

module _ (P : Program) (M : ModelState) (well_formed : is_well_formed P ≡ true) (state : IsStateOf P M.system)
    (possible : IsPossible P (history_of M.system)) where
  -- counts for the processes of the history are counts for the processes of the program
  for_each : {A : Type 0} (parts : List A) → length parts ≡ length (history_of M.system) → length parts ≡ length P
  for_each parts e = e ∙ length_cut M.system.lines M.system.places ∙ state.lines

  -- the process that received a message exists
  why_fits : (p : ℕ) (refusal : Refusal) → CannotUndo P M.system p refusal → FitsRefusal P refusal
  why_fits p refusals.NothingToUndo why = tt
  why_fits p (refusals.Consequence q) why = receiver_there (last_choice M.system p) why.receiver
    where
      receiver_there : (choice : Option ℕ) → last_target P M.system p choice ≡ Some q.0 → q.0 < length P
      receiver_there None e = cc
      receiver_there (Some k) e = target_there P p k q.0 well_formed e
  why_fits p refusal why = absurd why

  module _ (plan : Plan) (said : Said) (M' : ModelState) where
    abbrev Fit : Type 0
    Fit = FitsCall P (give plan) said

    refused : (refusal : Refusal) → FitsRefusal P refusal → Refuses refusal M said M' → Fit
    refused refusal fits reported = subst (FitsCall P (give plan)) (sym reported.0) fits

    accepted : (done : Done) → FitsDone P done → Accepts P done said M' → Fit
    accepted done fits reported = subst (FitsCall P (give plan)) (sym reported.reported) fits

    either : {A B : Type 0} (t : Bool) → (t ≡ true → A → Fit) → (t ≡ false → B → Fit) → MatchBool t A B → Fit
    either true first second = first refl
    either false first second = second refl

    with_process : (p : ℕ) (Does : Type 0) → (p < length P → Does → Fit) → WithProcess P p Does M said M' → Fit
    with_process p Does does =
        either (nat_lt p (length P)) (λ here. does (ltb-true p (length P) here)) (λ none. refused refusals.UnknownProcess tt)

    with_break : (found : Option Breakpoint) (Does : Breakpoint → Type 0) → ((b : Breakpoint) → Does b → Fit)
        → WithFound found Does M said M' → Fit
    with_break None Does does = refused refusals.UnknownBreak tt
    with_break (Some b) Does does = does b

    lists : (breakpoints : List Breakpoint) → Lists P breakpoints M said M' → Fit
    lists breakpoints reported = accepted Plain tt reported.0

    -- a choice, or a refusal that fits
    plays : (p : ℕ) (choice : Result ℕ Refusal) (after : ℕ → SystemState) → p < length P → Chooses P choice
        → Plays P p choice after M said M' → Fit
    plays p (Ok k) after here chooses reported = accepted (Played (record { 0 = p }) (record { 0 = k })) here reported.0
    plays p (Err refusal) after here chooses reported = refused refusal chooses reported

    unless_halted : (Does : Type 0) → (Does → Fit) → UnlessHalted P Does M said M' → Fit
    unless_halted Does does (inl goes) = does goes.1
    unless_halted Does does (inr (name, is, reported)) = refused (refusals.Halted name) tt reported

    goes_back : (cut : List ℕ) → length cut ≡ length (history_of M.system) → Accepts P (Places cut) said M' → Fit
    goes_back cut size = accepted (Places cut) (for_each cut size)

    no_cut : (b : Breakpoint) → HasNone P M b × Refuses refusals.NoCut M said M' → Fit
    no_cut b none = refused refusals.NoCut tt none.1

    sets : (refusal : Option Refusal) (name : List ℕ) (conjuncts : List Conjunct) → IsEarned P refusal
        → Sets refusal P name conjuncts M said M' → Fit
    sets (Some refusal) name conjuncts earned = refused refusal earned
    sets None name conjuncts earned = lists _

  acts_fits : (plan : Plan) (said : Said) (M' : ModelState) → Acts P plan M said M' → FitsCall P (give plan) said
  acts_fits (Step p k) said M' =
      with_process (Step p k) said M' p _
      (λ here. unless_halted (Step p k) said M' _
      (plays (Step p k) said M' p (step_choice P M.system p k) _ here (step_chooses P M.system p k)))
  acts_fits (Next p) said M' =
      with_process (Next p) said M' p _
      (λ here. unless_halted (Next p) said M' _
      (plays (Next p) said M' p (next_choice P M.system p) _ here (next_chooses P M.system p)))
  acts_fits (Redo p) said M' =
      with_process (Redo p) said M' p _
      (λ here. unless_halted (Redo p) said M' _
      (plays (Redo p) said M' p (redo_choice P M.system p) _ here
      (again_chooses P (configuration_of P M.system) p (slice_get (line_of M.system p) (place_at M.system p)))))
  acts_fits (Undo p) said M' =
      with_process (Undo p) said M' p _
      (λ here. ⊎_elim
      (λ (takes : TakesBack P p M said M').
      accepted (Undo p) said M' (Undone (record { 0 = p }) (record { 0 = takes.choice })) here takes.reported)
      (λ (keeps : KeepsEvent P p M said M'). refused (Undo p) said M' keeps.refusal (why_fits p keeps.refusal keeps.why) keeps.reported))
  acts_fits (Rollback p n) said M' =
      with_process (Rollback p n) said M' p _
      (λ here. either (Rollback p n) said M' (nat_lt (place_at M.system p) n)
      (λ far. refused (Rollback p n) said M' refusals.BadPlace tt)
      (λ near back. goes_back (Rollback p n) said M' back.cut back.is.consistent.sizes back.reported))
  acts_fits (Goto name) said M' =
      with_break (Goto name) said M' (named name M.breakpoints) _
      (λ b. ⊎_elim
      (λ (goes : GoesTo P b M said M'). goes_back (Goto name) said M' goes.cut goes.is.satisfies.consistent.sizes goes.reported)
      (no_cut (Goto name) said M' b))
  acts_fits (Break name conjuncts) said M' =
      sets (Break name conjuncts) said M' (break_refusal P M name conjuncts) name conjuncts (break_earns P M name conjuncts)
  acts_fits (Clear name) said M' =
      with_break (Clear name) said M' (named name M.breakpoints) _ (λ b. lists (Clear name) said M' _)
  acts_fits (Arm name) said M' =
      with_break (Arm name) said M' (named name M.breakpoints) _
      (λ b. either (Arm name) said M' b.armed (λ armed. refused (Arm name) said M' refusals.AlreadyArmed tt)
      (λ free. lists (Arm name) said M' _))
  acts_fits (Pass name) said M' =
      with_break (Pass name) said M' (named name M.breakpoints) _
      (λ b. either (Pass name) said M' b.armed
      (λ armed. ⊎_elim
      (λ (passes : HasCut P (history_of M.system) b × Lists P (with_mark name false M.breakpoints) M said M').
      lists (Pass name) said M' _ passes.1) (no_cut (Pass name) said M' b))
      (λ free. refused (Pass name) said M' refusals.NotArmed tt))

  -- queries about an existing process, and about an existing breakpoint

  reported : (query : Query) (answer : Answer) (said : Said) → said ≡ Answered answer → FitsAnswer P query answer → FitsCall P (Ask query) said
  reported query answer said e fits = subst (FitsCall P (Ask query)) (sym e) fits

  unknown : (query : Query) (refusal : Refusal) (said : Said) → said ≡ Refused refusal → FitsRefusal P refusal
      → FitsCall P (Ask query) said
  unknown query refusal said e fits = subst (FitsCall P (Ask query)) (sym e) fits

  about_fits : (query : Query) (p : ℕ) (answer : Answer) (said : Said) → said ≡ about P p answer
      → (p < length P → FitsAnswer P query answer) → FitsCall P (Ask query) said
  about_fits query p answer said e fits = by (nat_lt p (length P)) refl e
    where
      by : (t : Bool) → nat_lt p (length P) ≡ t → said ≡ cond t (Answered answer) (Refused refusals.UnknownProcess)
          → FitsCall P (Ask query) said
      by true here e = reported query answer said e (fits (ltb-true p (length P) here))
      by false here e = unknown query refusals.UnknownProcess said e tt

  of_process : (query : Query) (p : ℕ) (Tells : Type 0) (said : Said) → (p < length P → Tells → FitsCall P (Ask query) said)
      → MatchBool (nat_lt p (length P)) Tells (said ≡ Refused refusals.UnknownProcess) → FitsCall P (Ask query) said
  of_process query p Tells said fits = by (nat_lt p (length P)) refl
    where
      by : (t : Bool) → nat_lt p (length P) ≡ t → MatchBool t Tells (said ≡ Refused refusals.UnknownProcess)
          → FitsCall P (Ask query) said
      by true here tells = fits (ltb-true p (length P) here) tells
      by false here e = unknown query refusals.UnknownProcess said e tt

  of_break : (query : Query) (found : Option Breakpoint) (Tells : Breakpoint → Type 0) (said : Said)
      → ((b : Breakpoint) → Tells b → FitsCall P (Ask query) said) → AboutFound found Tells said → FitsCall P (Ask query) said
  of_break query None Tells said fits e = unknown query refusals.UnknownBreak said e tt
  of_break query (Some b) Tells said fits tells = fits b tells

  length-heads_of : (H : History) (tuple : List ℕ) → length tuple ≡ length H → length (heads_of H tuple) ≡ length H
  length-heads_of [] tuple e = refl
  length-heads_of (choices ∷ H) [] e = absurd (omega arith)
  length-heads_of (choices ∷ H) (n ∷ tuple) e = ap suc (length-heads_of H tuple (omega arith))

  pub answers_fit : (query : Query) (said : Said) → Answers P M query said → FitsCall P (Ask query) said
  answers_fit (Vars p) said e =
      about_fits (Vars p) p (Values (values_of (configuration_of P M.system) p)) said e
      (λ here. (here, values_there P (history_of M.system) p possible here))
  answers_fit (Chan i j) said e = by (nat_lt i (length P)) (nat_lt j (length P)) refl refl e
    where
      by : (s t : Bool) → nat_lt i (length P) ≡ s → nat_lt j (length P) ≡ t
          → said ≡ cond (s && t) (Answered (Messages (channel_of (configuration_of P M.system) i j))) (Refused refusals.UnknownProcess)
          → FitsCall P (Ask (Chan i j)) said
      by true true first second e =
          reported (Chan i j) (Messages (channel_of (configuration_of P M.system) i j)) said e
          (ltb-true i (length P) first, ltb-true j (length P) second)
      by true false first second e = unknown (Chan i j) refusals.UnknownProcess said e tt
      by false t first second e = unknown (Chan i j) refusals.UnknownProcess said e tt
  answers_fit (Clock p) said e =
      of_process (Clock p) p (TellsClock P M.system p said) said
      (λ here tells. reported (Clock p) (Counts tells.cut) said tells.reported (here, for_each tells.cut tells.is.consistent.sizes)) e
  answers_fit (Place p) said e =
      about_fits (Place p) p (PlaceOf (place_at M.system p) (length (line_of M.system p))) said e (λ here. here)
  answers_fit (Can p) said e =
      of_process (Can p) p (TellsUndo P M.system p said) said
      (λ here. ⊎_elim
      (λ (may : MayUndo P (history_of M.system) p × (said ≡ Answered (CanUndo (Ok tt)))). reported (Can p) (CanUndo (Ok tt)) said may.1 here)
      (λ (tells : TellsWhy P M.system p said).
      reported (Can p) (CanUndo (Err tells.refusal)) said tells.reported (here, why_fits p tells.refusal tells.why))) e
  answers_fit (CutOf name) said e =
      of_break (CutOf name) (named name M.breakpoints) (λ b. TellsCut P M b said) said
      (λ b. ⊎_elim
      (λ (least : (cut : List ℕ) × IsLeast P (history_of M.system) b.conjuncts cut × (said ≡ Answered (CutIs (Some cut)))).
      reported (CutOf name) (CutIs (Some least.0)) said least.2 (for_each least.0 least.1.satisfies.consistent.sizes))
      (λ (none : NoCut P (history_of M.system) b.conjuncts × (said ≡ Answered (CutIs None))).
      reported (CutOf name) (CutIs None) said none.1 tt)) e
  answers_fit (Why name) said e =
      of_break (Why name) (named name M.breakpoints) (λ b. TellsFrontier P M b said) said
      (λ b tells. reported (Why name) (Frontier (heads_of (history_of M.system) tells.tuple)) said tells.reported
      (for_each _ (length-heads_of (history_of M.system) tells.tuple tells.is.settled.sizes))) e
  answers_fit Breaks said e = reported Breaks (Marks (map mark_of M.breakpoints)) said e tt

  -- the rest of the commands of a batch that was given at M, from the state that those before them left; the first has this position
  batch_fits : (all : List Plan) (between : ModelState) (at : ℕ) (plans : List Plan) (said : Said) (M' : ModelState)
      → Batches P M at plans between said M' → FitsCall P (Give (Batch all)) said
  batch_fits all between at [] said M' reported = subst (FitsCall P (Give (Batch all))) (sym reported.0.reported) tt
  batch_fits all between at (plan ∷ plans) said M' (inl (reply, next, acts, others)) = batch_fits all next (at + 1) plans said M' others
  batch_fits all between at (plan ∷ plans) said M' (inr (refusal, acts, reported)) = subst (FitsCall P (Give (Batch all))) (sym reported.0) tt

  pub follows_fits : (order : Order) (said : Said) (M' : ModelState) → Follows P order M said M' → FitsCall P (Give order) said
  follows_fits (One plan) said M' acts = acts_fits plan said M' acts
  follows_fits (Batch plans) said M' follows = batch_fits plans M 1 plans said M' follows

-- the refusal for a failed allocation fits each call

pub memory_fits : (P : Program) (call : Call) → FitsCall P call (Refused refusals.Memory)
memory_fits P (Give order) = tt
memory_fits P Back = tt
memory_fits P (Ask query) = tt

back_by : (P : Program) (given : List Given) (last : Given) (said : Said) (t : Bool)
    → MatchBool t ((M : ModelState) × LeadsTo P (without_back given) M × Accepts P Plain said M)
    (said ≡ Refused (refusals.OtherSeat last.seat)) → FitsCall P Back said
back_by P given last said true (M, leads_to, reported) = subst (FitsCall P Back) (sym reported.reported) tt
back_by P given last said false reported = subst (FitsCall P Back) (sym reported) tt

pub back_fits : (P : Program) (given : List Given) (seat : ℕ) (last : Option Given) (said : Said) → AnswersBack P given seat last said
    → FitsCall P Back said
back_fits P given seat None said reported = subst (FitsCall P Back) (sym reported) tt
back_fits P given seat (Some last) said reported = back_by P given last said (last.seat == seat) reported
