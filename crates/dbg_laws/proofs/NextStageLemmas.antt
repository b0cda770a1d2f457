-- The stage after an accepted command, or a batch.
use Rattle.std.proofs.Common.{◌≡◌, inl, inr, ⊎_elim, ℕ, ◌+◌, Bool, true, false, List, [], ◌∷◌, length, Option, Some, None, Result, Ok, Err, refl}
use Rattle.std.proofs.Common.{sym, ap, ◌∙◌, subst, MatchBool, if◌then◌else◌}
use Rattle.std.specs.Prelude.{nat_lt}
use Rattle.dbg_base.specs.declared.said.Done.{Done}
use Rattle.dbg_base.specs.declared.said.Done.TheVariants.{Played, Undone, Places, Plain}
use Rattle.dbg_base.specs.declared.said.Reply.{Reply}
use Rattle.dbg_base.specs.declared.said.Said.TheVariants.{Accepted}
use Rattle.dbg_base.specs.declared.refusal.Refusal.{Refusal}
use Rattle.dbg_base.specs.declared.refusal.Refusal.TheVariants as refusals
use Rattle.dbg_base.specs.Trees.{Program, process_of}
use Rattle.dbg_base.specs.Configurations.{Configuration, start_of}
use Rattle.dbg_base.specs.Firing.{fire}
use Rattle.dbg_base.specs.Histories.{History, IsPossible}
use Rattle.dbg_base.specs.Orders.{Event, order, choices_of, IsLegalOrder}
use Rattle.dbg_base.specs.Predicates.{Conjunct, IsLeast, NoCut}
use Rattle.dbg_base.specs.Reversal.{MayUndo, IsRollback}
use Rattle.dbg_base.specs.Breakpoints.{Breakpoint, named, HasCut, with_mark, IsHaltedBy}
use Rattle.dbg_base.specs.SystemStates.{SystemState, place_at, history_of, configuration_of, after_choice, after_redo}
use Rattle.dbg_base.specs.ModelStates.{ModelState, IsHalted}
use Rattle.dbg_base.specs.declared.limits.TheConstants.{EVENTS}
use Rattle.dbg_base.specs.Choices.{if_fires, step_choice, next_choice, redo_choice}
use Rattle.dbg_base.specs.Calls.{Plan, Step, Next, Undo, Redo, Rollback, Goto, Break, Clear, Arm, Pass, One}
use Rattle.dbg_base.specs.Acts.{Accepts, Refuses, Plays, UnlessHalted, TakesBack, KeepsEvent, RollsBack, WithFound, GoesTo, HasNone, Lists, Sets}
use Rattle.dbg_base.specs.Acts.{Acts, Batches, break_refusal}
use Rattle.dbg_base.specs.Reference.{IsGreatest}
use Rattle.dbg_base.specs.Sessions.{remaining}
use Rattle.dbg_laws.specs.Transcripts.{Stage, breakpoints_after, Halts, Does, IsNext, AreNext}
use Rattle.dbg_laws.proofs.OrderSwapLemmas.{takes}
use Rattle.dbg_laws.proofs.PlayLemmas.{possible}
use Rattle.dbg_laws.proofs.ReachedStateLemmas.{IsReached}
use Rattle.dbg_laws.proofs.EffectiveOrderLemmas.{follows_keep}
use Rattle.dbg_laws.proofs.ClosedSetLemmas.{closed, consistent}
use Rattle.dbg_laws.proofs.LastEventLemmas.{may_undo}
use Rattle.dbg_laws.proofs.ReplayLemmas.{least_is_met, none_is_met}
use Rattle.dbg_laws.proofs.NextReplayLemmas.{acts_leave}
use Rattle.dbg_laws.proofs.BreakpointLemmas.{refused, either, with_process, accepted_by, breakpoints_are}

-- the stage has the events and the breakpoints of the state
pub record IsStageOf (P : Program) (M : ModelState) (stage : Stage) : Type 0 where
  pub reached : IsReached P M.system
  pub remain : choices_of (length P) stage.events ≡ history_of M.system
  pub fires : IsLegalOrder P stage.events
  pub breakpoints : M.breakpoints ≡ stage.breakpoints

-- a step makes the choice that it names
step_is : (k j : ℕ) (a b : Bool) (r : Result Configuration Refusal)
    → (if a then (if b then if_fires k r else Err refusals.ProcessFull) else Err refusals.UnknownChoice) ≡ Ok j → j ≡ k
step_is k j true true (Ok c) e = cc
step_is k j true true (Err refusal) e = cc
step_is k j true false r e = cc
step_is k j false b r e = cc

-- the breakpoint that halts is judged by sets of events
both_ways : {A B C D : Type 0} (t : Bool) → (A → C) → (B → D) → MatchBool t A B → MatchBool t C D
both_ways true first second = first
both_ways false first second = second

halts : (P : Program) (E : List Event) (c : Configuration) → order P E ≡ Ok c → (breakpoints : List Breakpoint) (halted : Option (List ℕ))
    → IsHaltedBy P (choices_of (length P) E) breakpoints halted → Halts P E breakpoints halted
halts P E c legal [] halted is = is
halts P E c legal (b ∷ breakpoints) halted is =
    both_ways b.armed
    (⊎_elim
    (λ (has : HasCut P (choices_of (length P) E) b × (halted ≡ Some b.name)).
    inl ((has.0.0, (least_is_met P E c legal b.conjuncts has.0.0 has.0.1).met), has.1))
    (λ (none : NoCut P (choices_of (length P) E) b.conjuncts × IsHaltedBy P (choices_of (length P) E) breakpoints halted).
    inr (none_is_met P E c legal b.conjuncts none.0, halts P E c legal breakpoints halted none.1)))
    (halts P E c legal breakpoints halted) is

-- what an accepted reply says of the next stage
reply_halts : (P : Program) (M : ModelState) (next : Stage) (reply : Reply) (done : Done) → IsStageOf P M next
    → Accepts P done (Accepted reply) M → Halts P next.events next.breakpoints reply.halted
reply_halts P M next reply done is accepts =
    let e = accepts.reported in
    let same : reply ≡ record { done = done; halted = accepts.halted } = cc in
    subst (λ (halted : Option (List ℕ)). Halts P next.events next.breakpoints halted) (sym (ap (λ (r : Reply). r.halted) same))
    (subst (λ (breakpoints : List Breakpoint). Halts P next.events breakpoints accepts.halted) is.breakpoints
    (halts P next.events is.fires.0 is.fires.1 M.breakpoints accepts.halted
    (subst (λ (H : History). IsHaltedBy P H M.breakpoints accepts.halted) (sym is.remain) accepts.is)))

module _ (P : Program) (M : ModelState) (now : Stage) (is : IsStageOf P M now) (reply : Reply) (M' : ModelState) where
  abbrev E : List Event
  E = now.events

  all : IsPossible P (choices_of (length P) E)
  all = (possible P (choices_of (length P) E) E is.fires.0 is.fires.1 (takes P (start_of P) is.fires.0 E is.fires.1)).0

  -- no breakpoint halts the session now
  free : IsHalted P M None → Halts P E now.breakpoints None
  free is_halted =
      subst (λ (breakpoints : List Breakpoint). Halts P E breakpoints None) is.breakpoints
      (halts P E is.fires.0 is.fires.1 M.breakpoints None
      (subst (λ (H : History). IsHaltedBy P H M.breakpoints None) (sym is.remain) is_halted))

  unless_halted : {Goal : Type 0} (Acted : Type 0) → (Halts P E now.breakpoints None → Acted → Goal)
      → UnlessHalted P Acted M (Accepted reply) M' → Goal
  unless_halted Acted does (inl (is_free, acted)) = does (free is_free) acted
  unless_halted Acted does (inr (name, is_halted, reported)) = refused P M reply M' (refusals.Halted name) reported

  done_is : (done : Done) → Accepts P done (Accepted reply) M' → reply.done ≡ done
  done_is done accepts =
      let e = accepts.reported in
      let same : reply ≡ record { done = done; halted = accepts.halted } = cc in
      ap (λ (r : Reply). r.done) same

  plays : (p : ℕ) (choice : Result ℕ Refusal) (after : ℕ → SystemState) → Plays P p choice after M (Accepted reply) M'
      → (k : ℕ) × (choice ≡ Ok k) × (reply.done ≡ Played (record { 0 = p }) (record { 0 = k }))
  plays p (Ok k) after reported = (k, refl, done_is (Played (record { 0 = p }) (record { 0 = k })) reported.0)
  plays p (Err refusal) after reported = refused P M reply M' refusal reported

  lists : (breakpoints : List Breakpoint) → Lists P breakpoints M (Accepted reply) M' → reply.done ≡ Plain
  lists breakpoints reported = done_is Plain reported.0

  sets : (o : Option Refusal) (name : List ℕ) (conjuncts : List Conjunct) → Sets o P name conjuncts M (Accepted reply) M'
      → reply.done ≡ Plain
  sets (Some refusal) name conjuncts = refused P M reply M' refusal
  sets None name conjuncts = lists _

  with_break : {Goal : Type 0} (found : Option Breakpoint) (Acted : Breakpoint → Type 0)
      → ((b : Breakpoint) → found ≡ Some b → Acted b → Goal) → WithFound found Acted M (Accepted reply) M' → Goal
  with_break None Acted does = refused P M reply M' refusals.UnknownBreak
  with_break (Some b) Acted does = does b refl

  greatest : (p n : ℕ) (cut : List ℕ) → IsRollback P (history_of M.system) p n cut → IsGreatest P E p n cut
  greatest p n cut back =
      let here : IsRollback P (choices_of (length P) E) p n cut = subst (λ (H : History). IsRollback P H p n cut) (sym is.remain) back in
      record {
        closed = closed P E cut here.consistent;
        below = here.below;
        greatest = λ other set few. here.greatest other (consistent P E all other set) few;
      }

  does : (plan : Plan) → Acts P plan M (Accepted reply) M' → Does P plan now reply.done
  does (Step p k) =
      with_process P M reply M' p _
      (unless_halted _
      (λ none acts.
      let played = plays p (step_choice P M.system p k) (after_choice M.system p) acts in
      let same = step_is k played.0 (nat_lt k (length (process_of P p).commands)) (nat_lt (place_at M.system p) EVENTS)
      (fire P (configuration_of P M.system) p k) played.1 in
      (none, played.2 ∙ ap (λ (j : ℕ). Played (record { 0 = p }) (record { 0 = j })) same)))
  does (Next p) =
      with_process P M reply M' p _
      (unless_halted _
      (λ none acts. let played = plays p (next_choice P M.system p) (after_choice M.system p) acts in (none, played.0, played.2)))
  does (Redo p) =
      with_process P M reply M' p _
      (unless_halted _
      (λ none acts. let played = plays p (redo_choice P M.system p) (λ k. after_redo M.system p) acts in (none, played.0, played.2)))
  does (Undo p) =
      with_process P M reply M' p _
      (⊎_elim
      (λ (goes : TakesBack P p M (Accepted reply) M'). (
        goes.choice,
        may_undo P E p all (subst (λ (H : History). MayUndo P H p) (sym is.remain) goes.may),
        done_is (Undone (record { 0 = p }) (record { 0 = goes.choice })) goes.reported,
      ))
      (λ (keeps : KeepsEvent P p M (Accepted reply) M'). refused P M reply M' keeps.refusal keeps.reported))
  does (Rollback p n) =
      with_process P M reply M' p _
      (either P M reply M' (nat_lt (place_at M.system p) n) (refused P M reply M' refusals.BadPlace)
      (λ (back : RollsBack P p n M (Accepted reply) M'). (back.cut, greatest p n back.cut back.is, done_is (Places back.cut) back.reported)))
  does (Goto name) =
      with_break (named name M.breakpoints) _
      (λ b found. ⊎_elim
      (λ (goes : GoesTo P b M (Accepted reply) M'). (
        b,
        ap (named name) (sym is.breakpoints) ∙ found,
        goes.cut,
        least_is_met P E is.fires.0 is.fires.1 b.conjuncts goes.cut
            (subst (λ (H : History). IsLeast P H b.conjuncts goes.cut) (sym is.remain) goes.is),
        done_is (Places goes.cut) goes.reported,
      ))
      (λ (none : HasNone P M b × Refuses refusals.NoCut M (Accepted reply) M'). refused P M reply M' refusals.NoCut none.1))
  does (Break name conjuncts) = sets (break_refusal P M name conjuncts) name conjuncts
  does (Clear name) = with_break (named name M.breakpoints) _ (λ b found. lists _)
  does (Arm name) =
      with_break (named name M.breakpoints) _
      (λ b found. either P M reply M' b.armed (refused P M reply M' refusals.AlreadyArmed) (lists _))
  does (Pass name) =
      with_break (named name M.breakpoints) _
      (λ b found. either P M reply M' b.armed
      (⊎_elim
      (λ (passes : HasCut P (history_of M.system) b × Lists P (with_mark name false M.breakpoints) M (Accepted reply) M'). lists _ passes.1)
      (λ (none : HasNone P M b × Refuses refusals.NoCut M (Accepted reply) M'). refused P M reply M' refusals.NoCut none.1))
      (refused P M reply M' refusals.NotArmed))

  -- the next stage
  pub next_stage : (plan : Plan) → Acts P plan M (Accepted reply) M'
      → (next : Stage) × IsNext P plan reply now next × IsStageOf P M' next
  next_stage plan acts =
      let reached = follows_keep P (One plan) M (Accepted reply) M' is.reached acts in
      let leaves = acts_leave P E is.fires.0 M is.reached is.remain is.fires.1 reply M' reached plan acts in
      let next : Stage = record { events = remaining P reply.done E; breakpoints = breakpoints_after plan now.breakpoints } in
      let next_is : IsStageOf P M' next = record {
        reached = reached;
        remain = leaves.0;
        fires = leaves.1;
        breakpoints = breakpoints_are P M reply M' plan acts ∙ ap (breakpoints_after plan) is.breakpoints;
      } in
      let accepts = accepted_by P M reply M' plan acts in (
        next,
        record {
          does = does plan acts;
          events = refl;
          fires = leaves.1;
          breakpoints = refl;
          halted = reply_halts P M' next reply accepts.0 next_is accepts.1;
        },
        next_is,
      )

-- the stage after a batch
pub batch_stage : (P : Program) (start : ModelState) (at : ℕ) (plans : List Plan) (M : ModelState) (now : Stage) (reply : Reply)
    (M' : ModelState) → IsStageOf P M now → Batches P start at plans M (Accepted reply) M'
    → (next : Stage) × (reply.done ≡ Plain) × AreNext P plans now next × Halts P next.events next.breakpoints reply.halted
    × IsStageOf P M' next
batch_stage P start at [] M now reply M' is done =
    let still = subst (λ (K : ModelState). IsStageOf P K now) (sym done.1) is in
    (now, done_is P M now is reply M' Plain done.0, refl, reply_halts P M' now reply Plain still done.0, still)
batch_stage P start at (plan ∷ plans) M now reply M' is (inl (first, between, acts, rest)) =
    let one = next_stage P M now is first between plan acts in
    let later = batch_stage P start (at + 1) plans between one.0 reply M' one.2 rest in
    (later.0, later.1, (first, one.0, one.1, later.2), later.3, later.4)
batch_stage P start at (plan ∷ plans) M now reply M' is (inr (refusal, acts, refuses)) =
    absurd (let wrong : Accepted reply ≡ _ = refuses.0 in cc)
